pub mod Parts
pub mod Ticks
