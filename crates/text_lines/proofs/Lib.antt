pub mod Undone
pub mod Cuts
pub mod Ahead
