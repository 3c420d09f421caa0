pub mod Form
pub mod Grammar
pub mod Values
pub mod Entries
pub mod Conditions
pub mod Theorems
pub mod Cases
pub mod internal
