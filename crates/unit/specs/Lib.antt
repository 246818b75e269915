-- What must be believed: the house rules, the unit, its legal settings, what is sent to it, and the promises of these.
pub mod House
pub mod Unit
pub mod Legal
pub mod Sending
pub mod SettingsPromise
pub mod HousePromise
pub mod UnitPromise
pub mod UnitTablePromise
pub mod Demand3
pub mod SendingPromise
pub mod FlushPromise
pub mod WrittenDemand3
pub mod TruthPromise
pub mod StoppedPromise
