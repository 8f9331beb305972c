-- Reads of files.
use Rattle.std.specs.Prelude.{ℕ, List, [], ◌∷◌, take, drop}

-- a read: which file, from which place of it on, how many bytes
pub record Read : Type 0 where
  pub file : ℕ
  pub at : ℕ
  pub size : ℕ

abbrev pub one_read : ℕ → ℕ → ℕ → List Read
one_read file at size = record { file = file; at = at; size = size } ∷ []

-- so many bytes of a list, from a place on
abbrev pub slice_of : ℕ → ℕ → List ℕ → List ℕ
slice_of at size bytes = take size (drop at bytes)
