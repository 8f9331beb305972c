-- A walk over sorted ranges that looks for the first place without a member.
use Rattle.std.proofs.Common.{arith, ◌≡◌, ◌<◌, ◌≤◌, ◌+◌, ℕ, true, false, List, [], ◌∷◌, sym, ◌∙◌, inl, inr, Option, Some, None, refl}
use Rattle.std.specs.Prelude.{min, max, IfSome, IfNone}
use Rattle.std.proofs.lemmas.Bool.{cases_lt}
use Rattle.std.proofs.lemmas.Bool.Decides.{nat_tests}
use Rattle.region_ranges.specs.declared.ranges.ByteRange.{ByteRange}
use Rattle.region_ranges.specs.Ranges.{inside, has, IsSortedFrom, IsFirstRun}

pub record Walked (xs rs : List ByteRange) (within : ByteRange) (from start at : ℕ) : Type 0 where
  pub order : (within.start ≤ start) × (start ≤ at) × (from ≤ at)
  pub members : (i : ℕ) → from ≤ i → within.start ≤ i → i < at → has xs i ≡ true
  pub left : (i : ℕ) → within.start ≤ i → i + 1 ≡ start → has xs i ≡ true
  pub same : (i : ℕ) → start ≤ i → has rs i ≡ has xs i
  pub low : ℕ
  pub sorted : IsSortedFrom low rs

pub inside_is : (r : ByteRange) (i : ℕ) → r.start ≤ i → i < r.end → inside r i ≡ true
inside_is r i h k = grind (arith, nat_tests)

pub above_is : (r : ByteRange) (i : ℕ) → r.end ≤ i → inside r i ≡ false
above_is r i h = grind (arith, nat_tests)

pub below_is : (r : ByteRange) (i : ℕ) → i < r.start → inside r i ≡ false
below_is r i h = grind (arith, nat_tests)

-- below the first range there is no member
pub has_below : (low : ℕ) (rs : List ByteRange) (i : ℕ) → IsSortedFrom low rs → i < low → has rs i ≡ false
has_below low [] i s h = refl
has_below low (r ∷ rs) i s h = rw (below_is r i (omega arith), has_below (r.end + 1) rs i s.2 (omega arith)) refl

pub has_first : (r : ByteRange) (rs : List ByteRange) (i : ℕ) → r.start ≤ i → i < r.end → has (r ∷ rs) i ≡ true
has_first r rs i h k = rw (inside_is r i h k) refl

pub has_later : (r : ByteRange) (rs : List ByteRange) (i : ℕ) → r.end ≤ i → has (r ∷ rs) i ≡ has rs i
has_later r rs i h = rw (above_is r i h) refl

module _ (xs rs : List ByteRange) (r within : ByteRange) (from start at : ℕ) (w : Walked xs (r ∷ rs) within from start at) where
  more_members : r.start ≤ at → (i : ℕ) → from ≤ i → within.start ≤ i → i < max at r.end → has xs i ≡ true
  more_members h i f s k = elim (cases_lt i at) [
    | inl below ↦ w.members i f s below
    | inr above ↦ sym (w.same i (omega arith)) ∙ has_first r rs i (omega arith) (omega arith)
  ]

  more_left : r.start ≤ at → (i : ℕ) → within.start ≤ i → i + 1 ≡ max start r.end → has xs i ≡ true
  more_left h i s e = elim (cases_lt start r.end) [
    | inl later ↦ sym (w.same i (omega arith)) ∙ has_first r rs i (omega arith) (omega arith)
    | inr same ↦ w.left i s (omega arith)
  ]

  pub stepped : r.start ≤ at → Walked xs rs within from (max start r.end) (max at r.end)
  stepped h = record {
    order = (omega arith, omega arith, omega arith);
    members = more_members h;
    left = more_left h;
    same = λ i k. sym (has_later r rs i (omega arith)) ∙ w.same i (omega arith);
    low = r.end + 1;
    sorted = w.sorted.2;
  }

  pub found : at < r.start → at < within.end → IsFirstRun (has xs) within from (record { start = start; end = min r.start within.end })
  found h k = record {
    inside = (omega arith, omega arith, omega arith);
    free = λ i a b. sym (w.same i a) ∙ has_below r.start (r ∷ rs) i (omega arith, w.sorted.1, w.sorted.2) (omega arith);
    left = w.left;
    right = λ b. let e : min r.start within.end ≡ r.start = omega arith in rw e (sym (w.same r.start (omega arith)) ∙ has_first r rs r.start (omega arith) w.sorted.1);
    first = λ i a b c. w.members i a b (omega arith);
    reached = omega arith;
  }

pub found_last : (xs : List ByteRange) (within : ByteRange) (from start at : ℕ) → Walked xs [] within from start at → at < within.end → IsFirstRun (has xs) within from (record { start = start; end = min within.end within.end })
found_last xs within from start at w k = let e : min within.end within.end ≡ within.end = omega arith in rw e (record {
  inside = (omega arith, omega arith, omega arith);
  free = λ i a b. sym (w.same i a);
  left = w.left;
  right = λ b. absurd (omega arith);
  first = λ i a b c. w.members i a b (omega arith);
  reached = omega arith;
})

-- the answer of `run`, at the place where the walk ended
pub some_found : (xs : List ByteRange) (within : ByteRange) (from start at next : ℕ) (o : Option ByteRange)
    → (at < within.end → IsFirstRun (has xs) within from (record { start = start; end = min next within.end }))
    → (within.end ≤ at → o ≡ None) → (at < within.end → o ≡ Some (record { start = start; end = min next within.end }))
    → IfSome o (IsFirstRun (has xs) within from)
some_found xs within from start at next o f none some = elim (cases_lt at within.end) [
  | inl h ↦ rw (some h) (f h)
  | inr h ↦ rw (none h) tt
]

pub none_found : (xs rs : List ByteRange) (within : ByteRange) (from start at next : ℕ) (o : Option ByteRange) → Walked xs rs within from start at
    → (at < within.end → o ≡ Some (record { start = start; end = min next within.end }))
    → IfNone o ((i : ℕ) → from ≤ i → within.start ≤ i → i < within.end → has xs i ≡ true)
none_found xs rs within from start at next o w some = elim (cases_lt at within.end) [
  | inl h ↦ rw (some h) tt
  | inr h ↦ all h o
]
  where
    all : within.end ≤ at → (p : Option ByteRange) → IfNone p ((i : ℕ) → from ≤ i → within.start ≤ i → i < within.end → has xs i ≡ true)
    all h None = λ i a b c. w.members i a b (omega (arith, h, c))
    all h (Some r) = tt
