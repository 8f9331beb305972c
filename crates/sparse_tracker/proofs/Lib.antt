mod Rows
pub mod Ties
pub mod Finds
pub mod Fresh
pub mod Counts
pub mod Moves
pub mod Looks
pub mod Stores
pub mod Lessons
pub mod Weighs
pub mod Spots
pub mod Heavy
