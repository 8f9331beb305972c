mod Rows
pub mod Places
pub mod Orders
pub mod Ranged
pub mod Filled
pub mod Statuses
pub mod Kept
