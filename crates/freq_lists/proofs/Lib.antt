pub mod Counts
pub mod Changes
pub mod Beside
pub mod Linked
pub mod Walks
pub mod Shown
pub mod Calls
pub mod Room
mod Rows
