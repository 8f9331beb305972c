pub mod Slices
pub mod Later
