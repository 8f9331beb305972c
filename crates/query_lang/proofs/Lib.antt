mod Rows
pub mod Only
pub mod Forms
pub mod Printed
pub mod Items
pub mod Texts
pub mod Sizes
pub mod Back
