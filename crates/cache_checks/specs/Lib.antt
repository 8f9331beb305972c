pub mod Checks
pub mod CellSteps
