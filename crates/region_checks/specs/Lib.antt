pub mod TrackerSteps
