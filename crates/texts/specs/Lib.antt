pub mod Bytes
pub mod Parts
pub mod Lent
pub mod Fen
pub mod Hub
pub mod Computed
