pub mod Json
mod Digits
mod Steps
mod Sound
pub mod Doubles
mod Placed
mod Whole
mod Read
mod Rows
