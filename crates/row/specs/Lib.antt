-- What must be believed: the profiles, the table of rows, the number of each command's row, the rule of signed codes, and 80; then
-- the promises. `Computed` need not be believed.
pub mod Profile
pub mod Table
pub mod Kind
pub mod Signed
pub mod MinusZero
pub mod TablePromise
pub mod KindPromise
pub mod SignedCodePromise
pub mod MinusZeroPromise
pub mod Computed
