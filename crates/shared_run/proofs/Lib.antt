mod Shares
mod LinesDone
mod Parts
mod Deals
mod Joins
mod Allows
mod Sums
mod Queues
mod Together
pub mod Jobs
mod Runs
mod Wholes
