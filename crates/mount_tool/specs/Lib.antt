pub mod Replies
pub mod Terms
pub mod Runs
pub mod Makes
pub mod Calls
pub mod Steps
pub mod Complete
