pub mod Ruled
pub mod Rules
pub mod One
pub mod Numbers
pub mod OneAnswer
