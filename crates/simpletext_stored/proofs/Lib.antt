pub mod Rows
pub mod Loop
pub mod Placed
pub mod Gathered
pub mod Listed
pub mod Firsts
pub mod Segments
pub mod Fetched
