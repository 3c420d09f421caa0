pub mod Act
pub mod Operands
pub mod Fetches
pub mod Levels
pub mod Lasting
pub mod Idle
