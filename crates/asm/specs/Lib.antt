pub mod Places
pub mod PlanLines
pub mod Reading
pub mod Writing
pub mod Answers
pub mod Conditions
pub mod Theorems
pub mod Cases
