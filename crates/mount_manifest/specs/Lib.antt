pub mod Steps
pub mod Json
pub mod Parts
pub mod Manifest
pub mod Sound
pub mod Words
pub mod PartNames
