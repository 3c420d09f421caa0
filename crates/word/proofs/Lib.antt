pub mod Fields
pub mod Bases
pub mod Candidates
pub mod Theorems
pub mod Later
pub mod Examples
