pub mod Rows
pub mod Named
pub mod Ranges
pub mod Inverse
pub mod Turned
pub mod OneAnswer
