pub mod Repeats
pub mod Faults
pub mod Sheets
pub mod Values
pub mod Witness
pub mod OneAnswer
