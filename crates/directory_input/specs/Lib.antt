pub mod Reads
pub mod Files
pub mod Causes
pub mod Windows
pub mod Memory
pub mod Going
