-- Proofs about the doors over lists of lines and trackers that a host lends.
pub mod Folds
pub mod OneAnswer
pub mod Said
