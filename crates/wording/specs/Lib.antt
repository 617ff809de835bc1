pub mod Output
pub mod Words
pub mod Steps
pub mod Numbers
pub mod Escapes
