pub mod Places
pub mod Counts
pub mod Planes
pub mod Words
pub mod Bits
