-- Proofs about the listing.
pub mod Asks
pub mod Examples
pub mod OneAnswer
