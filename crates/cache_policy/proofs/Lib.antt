mod Rows
pub mod Lowers
pub mod Tags
pub mod Places
pub mod Good
pub mod Lowered
pub mod Candidates
pub mod Clears
pub mod Mapped
pub mod Leaves
pub mod Keyed
