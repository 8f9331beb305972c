pub mod Draws
pub mod MadeRows
pub mod Searches
pub mod Cuts
pub mod Manifests
pub mod Made
