-- What must be believed: bytes at a place of a buffer, and what writing them answers and leaves; then the promise.
pub mod Placed
pub mod Written
pub mod WritePromise
