-- What must be believed: the listing in pieces, and what is promised of them. `Computed` need not be believed.
pub mod Pieces
pub mod Numbers
pub mod PiecesPromise
pub mod PieceRefusalPromise
pub mod Computed
