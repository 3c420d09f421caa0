mod Digits
pub mod Writers
