pub mod Escapes
pub mod Lines
pub mod Walks
pub mod Readers
pub mod Errors
pub mod Words
