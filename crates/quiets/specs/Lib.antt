pub mod Tests
pub mod Quiets
