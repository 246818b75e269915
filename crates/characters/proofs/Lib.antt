-- Proofs about characters, and numbers as text.
pub mod Classes
pub mod Hexes
pub mod Digits
pub mod Decimals
pub mod Sizes
pub mod Rooms
pub mod Written
pub mod OneAnswer
