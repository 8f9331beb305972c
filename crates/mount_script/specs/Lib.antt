pub mod Words
pub mod Commands
pub mod Blocks
pub mod Building
pub mod Scripts
pub mod Replies
