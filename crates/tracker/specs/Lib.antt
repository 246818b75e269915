-- What must be believed: a tracker's cells, what it keeps, what an answer and a capture make of it, the numbers of the answers, and
-- the promises of these. `Computed` need not be believed.
pub mod Cell
pub mod Tracker
pub mod Feed
pub mod Capture
pub mod Computed
pub mod Numbers
pub mod CellPromise
pub mod FeedPromise
pub mod FeedRefusalPromise
pub mod HistoryPromise
pub mod CaptureFedPromise
