-- What must be believed: a sheet's lines and its check; then the promises. `Computed` need not be believed.
pub mod Line
pub mod Sheet
pub mod Check
pub mod SheetPromise
pub mod SheetValuePromise
pub mod Computed
