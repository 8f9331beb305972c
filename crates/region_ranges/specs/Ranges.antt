-- Ranges of places, and the sets of places that sorted ranges are.
use Rattle.std.specs.Prelude.{◌≡◌, ◌<◌, ◌≤◌, ◌+◌, ◌-◌, ◌*◌, ◌/◌, ◌&&◌, ◌||◌, ℕ, min, max, Bool, true, false, not, nat_lt, nat_le, List, [], ◌∷◌, length, take, drop, map, reverse, Option, Some, None, if◌then◌else◌}
use Rattle.std.specs.List.{prefix_len, range_with_len}
use Rattle.region_ranges.specs.declared.ranges.ByteRange.{ByteRange}

abbrev pub inside : ByteRange → ℕ → Bool
inside r i = nat_le r.start i && nat_lt i r.end

-- the place is in one of the ranges
abbrev pub has : List ByteRange → ℕ → Bool
has [] i = false
has (r ∷ rs) i = inside r i || has rs i

-- sorted from a place on, not empty, and with a place between each two
abbrev pub IsSortedFrom : ℕ → List ByteRange → Type 0
IsSortedFrom low [] = Unit {0}
IsSortedFrom low (r ∷ rs) = (low ≤ r.start) × (r.start < r.end) × IsSortedFrom (r.end + 1) rs

-- what contracts see of a set: its ranges, and the changes for which there is room
pub record RangesView : Type 0 where
  pub ranges : List ByteRange
  pub spare : ℕ

-- every place of the range is in one of the ranges
abbrev pub Covers : List ByteRange → ByteRange → Type 0
Covers rs r = (i : ℕ) → r.start ≤ i → i < r.end → has rs i ≡ true

-- a place of the range is in none of them
abbrev pub Misses : List ByteRange → ByteRange → Type 0
Misses rs r = (i : ℕ) × (r.start ≤ i) × (i < r.end) × (has rs i ≡ false)

-- the greatest run in `within` without a member that contains the first such place at or after `from`
pub record IsFirstRun (p : ℕ → Bool) (within : ByteRange) (from : ℕ) (run : ByteRange) : Type 0 where
  pub inside : (within.start ≤ run.start) × (run.start < run.end) × (run.end ≤ within.end)
  pub free : (i : ℕ) → run.start ≤ i → i < run.end → p i ≡ false
  pub left : (i : ℕ) → within.start ≤ i → i + 1 ≡ run.start → p i ≡ true
  pub right : run.end < within.end → p run.end ≡ true
  pub first : (i : ℕ) → from ≤ i → within.start ≤ i → i < run.start → p i ≡ true
  pub reached : from < run.end

-- the same run, read from a list that says of each place before the end whether it is free
abbrev pub run_at : List Bool → ℕ → ℕ → Option ByteRange
run_at free start at =
    if nat_lt at (length free)
    then Some (record { start = at - prefix_len (λ b. b) (reverse (drop start (take at free))); end = at + prefix_len (λ b. b) (drop at free) })
    else None

abbrev pub first_run : List Bool → ℕ → ℕ → Option ByteRange
first_run free start from = run_at free start (max from start + prefix_len not (drop (max from start) free))

-- for each place before the end, whether it has no member
abbrev pub free_below : List ByteRange → ℕ → List Bool
free_below rs end = map (λ i. not (has rs i)) (range_with_len 0 end)

-- the multiple of `range` at or below the place, up to the next one or the end
abbrev pub aligned : ℕ → ℕ → ℕ → ByteRange
aligned at range end = record { start = at / range * range; end = min (at / range * range + range) end }
