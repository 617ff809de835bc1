pub mod Games
pub mod Play
pub mod Book
pub mod Demand3
pub mod Replay
pub mod Computed
