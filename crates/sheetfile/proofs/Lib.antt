-- Proofs about files and runs, one answer for each function, and computed witnesses.
pub mod Together
pub mod Records
pub mod Files
pub mod Filled
pub mod Trips
pub mod Writes
pub mod Plains
pub mod Witness
pub mod OneAnswer
