pub mod RunLaws
pub mod Contents
pub mod Turns
