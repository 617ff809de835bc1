pub mod Readings
pub mod Table
pub mod PlayLaws
