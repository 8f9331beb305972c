pub mod Matches
pub mod Hits
pub mod Sets
pub mod Answers
pub mod Shelves
