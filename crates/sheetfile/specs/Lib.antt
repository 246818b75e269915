-- What must be believed: a sheet's file, its run, what writing answers and leaves; then the promises. `Computed` need not be
-- believed.
pub mod File
pub mod Run
pub mod Written
pub mod ByLetter
pub mod FilePromise
pub mod WrittenPromise
pub mod FileByLetterPromise
pub mod Computed
