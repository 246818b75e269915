-- What must be believed: the sign-off, captures, the numbers of the answers, and the promises of these.
pub mod Sign
pub mod Capture
pub mod ByLetter
pub mod Numbers
pub mod SignPromise
pub mod CaptureSignPromise
pub mod SignByLetterPromise
pub mod SignRefusalPromise
