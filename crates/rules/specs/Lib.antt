pub mod Lists
pub mod Rules
pub mod Ordered
pub mod Computed
