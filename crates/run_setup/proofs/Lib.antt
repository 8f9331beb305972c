pub mod Limits
pub mod Filling
pub mod Causes
