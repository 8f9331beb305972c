-- Which lines of a block each worker runs.
use Rattle.std.specs.Prelude.{ℕ, ◌+◌, ◌==◌, ◌%◌, List, [], ◌∷◌, if◌then◌else◌}

-- Worker i's part of a list whose first item is number k: the items whose number leaves i when it is divided by the number of workers.
abbrev pub share : {X : Type 0} → ℕ → ℕ → ℕ → List X → List X
share workers i k [] = []
share workers i k (x ∷ xs) = if k % workers == i then x ∷ share workers i (k + 1) xs else share workers i (k + 1) xs
