pub mod Bytes
pub mod Number
pub mod Put
pub mod Theorems
pub mod internal
pub mod Cases
