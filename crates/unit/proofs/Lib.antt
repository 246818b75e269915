-- Proofs about the unit: its table of trials, the house rules, demand 3, what frames and streams leave true, and computed witnesses.
pub mod Trials
mod Tests
mod Computing
pub mod Cells
pub mod Settings
pub mod Houses
pub mod Sets
pub mod Flush
pub mod Moments
pub mod Sendings
pub mod Demand
pub mod Stopped
pub mod Acts
pub mod Answers
pub mod Does
pub mod Streams
pub mod Wrote
pub mod Truth
pub mod Signs
pub mod Witness
pub mod TooFew
pub mod ZeroWitness
