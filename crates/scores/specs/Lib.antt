pub mod Score
pub mod Computed
