pub mod Rounds
pub mod Entries
pub mod Walks
pub mod Gaps
pub mod Calls
