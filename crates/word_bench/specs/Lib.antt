pub mod Defined
pub mod Digest
