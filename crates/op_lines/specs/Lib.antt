pub mod Words
pub mod Values
pub mod Lines
pub mod Theorems
