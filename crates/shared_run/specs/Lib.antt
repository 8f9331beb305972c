pub mod Shares
pub mod Workers
pub mod Dealt
pub mod Gathered
pub mod Blocks
pub mod Runs
