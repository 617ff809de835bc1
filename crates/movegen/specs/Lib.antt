pub mod Generate
pub mod Lists
pub mod Counts
pub mod LastPly
pub mod Computed
