pub mod Reading
pub mod Asked
pub mod Plays
pub mod Requests
