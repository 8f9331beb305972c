pub mod Lists
pub mod BitLemmas
pub mod LaneLemmas
pub mod LayoutLemmas
pub mod PlaceLemmas
pub mod CountLemmas
pub mod NumberLemmas
pub mod PlaneLemmas
