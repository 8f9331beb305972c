-- Counts that lie in bit planes: at each place the planes hold the binary digits of that place's count.
use Rattle.std.specs.Prelude.{◌≡◌, ℕ, ◌+◌, ◌*◌, Bool, false, List, [], ◌∷◌, length, map, All, slice_index_or, cond}
use Rattle.std.specs.List.{range_with_len}
use Rattle.doc_bits.specs.Counts.{IsCounted}

-- the number that binary digits make, the lowest first
abbrev pub number : List Bool → ℕ
number [] = 0
number (digit ∷ digits) = cond digit 1 0 + 2 * number digits

-- the digits that planes hold at place i, the lowest plane first
abbrev pub digits_at : List (List Bool) → ℕ → List Bool
digits_at planes i = map (λ plane. slice_index_or plane i false) planes

-- the counts of the first len places
unfoldable pub counts_of : ℕ → List (List Bool) → List ℕ
counts_of len planes = map (λ i. number (digits_at planes i)) (range_with_len 0 len)

-- there are as many planes as a count has digits, each as long as there are places
pub record AreLaidOut (added len : ℕ) (planes : List (List Bool)) : Type 0 where
  pub as_many : length planes ≡ 32
  pub each_long : All (λ plane. length plane ≡ len) planes
  pub counted : IsCounted added (counts_of len planes)
