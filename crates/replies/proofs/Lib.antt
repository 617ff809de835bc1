pub mod Told
pub mod Founds
pub mod Listing
