pub mod Moves
pub mod Boards
pub mod Hash
pub mod Acceptance
pub mod Successor
pub mod Flip
pub mod Computed
