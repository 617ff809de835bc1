pub mod Integers
pub mod Advances
pub mod Scores
pub mod ScoreBounds
pub mod ScoreSums
pub mod ScoreFlip
pub mod Orders
