-- What must be believed: the directions' letters, the frame and its reader, captures; then the promises. `Computed` need not be
-- believed.
pub mod Letter
pub mod Frame
pub mod Reader
pub mod Meaning
pub mod KeptReader
pub mod Capture
pub mod Numbers
pub mod AnswerPromise
pub mod ReaderPromise
pub mod PartPromise
pub mod CapturePromise
pub mod CaptureRefusalPromise
pub mod Computed
