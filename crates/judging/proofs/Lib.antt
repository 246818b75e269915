-- Proofs about the rules of the refusals.
pub mod InRows
pub mod Judges
pub mod Order
pub mod Steps
pub mod OneAnswer
