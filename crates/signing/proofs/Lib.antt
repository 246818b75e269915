-- Proofs about the sign-off: captures, refusals, one answer for each function, and computed witnesses.
pub mod Signs
pub mod CaptureSigns
pub mod Refusals
pub mod OneAnswer
pub mod Witness
pub mod Together
pub mod Plains
