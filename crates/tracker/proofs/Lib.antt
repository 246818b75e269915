-- Proofs about trackers: their cells, what they keep, feeding, refusals, history and captures.
pub mod Cells
pub mod Keeps
pub mod Feeds
pub mod Refusals
pub mod History
pub mod Tells
pub mod Captures
pub mod Frames
pub mod OneAnswer
