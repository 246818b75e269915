-- Proofs about the doors, called with what a local lends for one call.
pub mod OneAnswer
pub mod Rooms
