-- What must be believed: what a frame brings, writing; then the promises.
pub mod Fields
pub mod Raw
pub mod FramePromise
