pub mod ByteStates
pub mod Kept
pub mod Weights
pub mod Places
