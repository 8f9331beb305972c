mod Rows
pub mod ListLemmas
pub mod SetLemmas
pub mod QueryTrees
pub mod Clauses
pub mod TermLemmas
pub mod Going
pub mod FileLemmas
pub mod HitLemmas
pub mod Shelves
pub mod FetchLemmas
