pub mod Policy
pub mod Ageing
pub mod Kept
pub mod Steps
pub mod Fields
pub mod Laws
pub mod Keyed
