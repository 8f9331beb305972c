pub mod Joined
pub mod Lines
mod Rows
