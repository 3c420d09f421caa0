mod Addresses
mod Asked
mod Bytes
mod Holders
