pub mod Reading
pub mod Stored
pub mod Live
pub mod Answers
pub mod Steps
pub mod Documents
pub mod Listing
