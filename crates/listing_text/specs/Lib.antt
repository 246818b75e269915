-- What must be believed: the listing, and what is promised of refused input.
pub mod Listing
pub mod Numbers
pub mod AskedPromise
