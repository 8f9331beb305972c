-- How many of the sets that were added hold each place.
use Rattle.std.specs.Prelude.{ℕ, ◌+◌, ◌^◌, ◌<◌, ◌≤◌, Bool, List, slice_index, if◌then◌else◌}

-- how many sets were added, and for each place how many of them hold it
pub record Counted : Type 0 where
  pub added : ℕ
  pub counts : List ℕ

-- no place is counted more often than sets were added
pub record IsCounted (added : ℕ) (counts : List ℕ) : Type 0 where
  pub countable : added < 2 ^ 32
  pub within : (i : ℕ) → slice_index counts i ≤ added

-- a place's count after one more set
abbrev pub counted : ℕ → Bool → ℕ
counted count in_set = if in_set then count + 1 else count
