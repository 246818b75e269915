-- What must be believed: classes of characters, texts as bytes, and numbers in decimal and in hex; then the promises. `Computed` need
-- not be believed.
pub mod Class
pub mod Letters
pub mod Decimal
pub mod Hex
pub mod DecimalPromise
pub mod HexPromise
pub mod Computed
