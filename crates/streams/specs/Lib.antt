-- What must be believed: a reader of a stream, and a stream in parts; then the promise.
pub mod Stream
pub mod CutPromise
