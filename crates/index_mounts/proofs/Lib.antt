pub mod Rosters
pub mod Kept
