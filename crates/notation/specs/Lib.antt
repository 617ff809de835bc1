pub mod Notation
pub mod Choice
pub mod Computed
pub mod MoveText
