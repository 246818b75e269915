-- Proofs about the listing in pieces.
pub mod Puts
pub mod Counts
pub mod Pieces
pub mod Whole
pub mod Refusals
pub mod OneAnswer
