-- Proofs about frames as bytes.
pub mod Put
pub mod Whole
pub mod Raws
pub mod Again
pub mod Live
pub mod Back
pub mod OneAnswer
pub mod Examples
