-- What must be believed: what holds of each of a list, and what the elements of a list give in order.
pub mod Each
pub mod InOrder
