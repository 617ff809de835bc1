pub mod Some
pub mod Walks
pub mod Lists
pub mod HasQuiet
pub mod HasCapture
pub mod HasMove
pub mod Laws
