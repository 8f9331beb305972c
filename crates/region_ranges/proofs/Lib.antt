pub mod Walks
pub mod Edits
pub mod Runs
pub mod Points
mod Rows
