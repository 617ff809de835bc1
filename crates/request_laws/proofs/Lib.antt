pub mod Lengths
pub mod Falling
pub mod Room
pub mod PlayedGames
