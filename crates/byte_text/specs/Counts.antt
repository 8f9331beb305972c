-- Counts of failures.
use Rattle.std.specs.Prelude.{◌≤◌, ◌^◌, ◌+◌, ◌-◌, ℕ, min}

-- a count rose in a call; one that stands at the last value of a u64 can rise no more, and passes
abbrev pub Rose : ℕ → ℕ → Type 0
Rose before now = min (before + 1) (2 ^ 64 - 1) ≤ now
