-- Proofs about bytes in what is lent.
pub mod Room
pub mod Tail
pub mod Placed
pub mod Writes
pub mod OneAnswer
