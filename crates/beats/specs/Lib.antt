pub mod Beats
pub mod internal
