pub mod Matches
pub mod Tests
