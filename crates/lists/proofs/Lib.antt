pub mod Each
pub mod InOrder
pub mod Tests
pub mod Past
