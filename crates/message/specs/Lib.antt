-- What must be believed: what data say, messages read and written; then the promises. `Computed` need not be believed.
pub mod Content
pub mod Message
pub mod Write
pub mod Numbers
pub mod OrderPromise
pub mod MessageWritePromise
pub mod MessageRefusalPromise
pub mod FormPromise
pub mod MessagePromise
pub mod BenchPromise
pub mod StepTablePromise
pub mod ZeroTablePromise
pub mod Computed
