pub mod Some
pub mod Added
pub mod Filled
pub mod Forward
pub mod Counts
pub mod Flights
