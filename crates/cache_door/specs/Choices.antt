-- How far a walk over the candidates has come.
use Rattle.std.specs.Prelude.{◌==◌, ℕ, List, [], ◌∷◌, Option, Some, None, if◌then◌else◌}

-- what is left from this one on
abbrev pub left_from : Option ℕ → List ℕ → List ℕ
left_from None xs = []
left_from (Some r) [] = []
left_from (Some r) (x ∷ xs) = if x == r then x ∷ xs else left_from (Some r) xs
