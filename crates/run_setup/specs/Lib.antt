pub mod Settings
pub mod MakeSettings
pub mod Words
pub mod Asked
pub mod Texts
