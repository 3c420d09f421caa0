mod Gathered
mod Places
mod Lines
mod Parts
mod Turns
