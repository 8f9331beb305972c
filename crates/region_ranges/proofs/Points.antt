-- What a search by halving finds in sorted ranges.
use Rattle.std.proofs.Common.{arith, ◌≡◌, ◌<◌, ◌≤◌, ◌+◌, ◌-◌, ℕ, zero, suc, true, false, List, [], ◌∷◌, get_or, length, drop, refl, sym, ap, ◌∙◌, inl, inr}
use Rattle.std.specs.Prelude.{max}
use Rattle.std.specs.List.Sorted.{IsPartitionPoint, IsNonDecreasingBy}
use Rattle.region_ranges.specs.declared.ranges.ByteRange.{ByteRange}
use Rattle.region_ranges.specs.Ranges.{IsSortedFrom, inside, has, Covers, Misses}
use Rattle.region_ranges.proofs.Walks.{Walked, has_first, has_later, has_below, below_is}
use Rattle.std.proofs.Math.Bool.{or-true}
use Rattle.std.proofs.lemmas.Bool.{cases_lt}

-- each range starts at the place from which they are sorted, or behind
pub starts_from : (low : ℕ) (xs : List ByteRange) (k : ℕ) (d : ByteRange) → IsSortedFrom low xs → k < length xs → (low ≤ (get_or xs k d).start) × ((get_or xs k d).start < (get_or xs k d).end)
starts_from low [] k d s h = absurd (omega arith)
starts_from low (x ∷ xs) zero d s h = (s.0, s.1)
starts_from low (x ∷ xs) (suc k) d s h = let r = starts_from (x.end + 1) xs k d s.2 (omega arith) in (omega (arith, s.0, s.1, r), r.1)

pub starts_rise : (low : ℕ) (xs : List ByteRange) → IsSortedFrom low xs → IsNonDecreasingBy (λ x. x.start) xs
starts_rise low [] s i j d le h = absurd (omega arith)
starts_rise low (x ∷ xs) s zero zero d le h = omega arith
starts_rise low (x ∷ xs) s zero (suc j) d le h = let r = starts_from (x.end + 1) xs j d s.2 (omega arith) in omega (arith, s.1, r)
starts_rise low (x ∷ xs) s (suc i) zero d le h = absurd (omega arith)
starts_rise low (x ∷ xs) s (suc i) (suc j) d le h = starts_rise (x.end + 1) xs s.2 i j d (omega arith) (omega arith)

pub ends_rise : (low : ℕ) (xs : List ByteRange) → IsSortedFrom low xs → IsNonDecreasingBy (λ x. x.end) xs
ends_rise low [] s i j d le h = absurd (omega arith)
ends_rise low (x ∷ xs) s zero zero d le h = omega arith
ends_rise low (x ∷ xs) s zero (suc j) d le h = let r = starts_from (x.end + 1) xs j d s.2 (omega arith) in omega (arith, r)
ends_rise low (x ∷ xs) s (suc i) zero d le h = absurd (omega arith)
ends_rise low (x ∷ xs) s (suc i) (suc j) d le h = ends_rise (x.end + 1) xs s.2 i j d (omega arith) (omega arith)

-- sorted also from a place up to which nothing starts
pub sorted_from : (a b : ℕ) (xs : List ByteRange) → IsSortedFrom a xs → ((d : ByteRange) → 0 < length xs → b ≤ (get_or xs 0 d).start) → IsSortedFrom b xs
sorted_from a b [] s h = tt
sorted_from a b (x ∷ xs) s h = (h x (omega arith), s.1, s.2)

-- the ranges behind the k-th
pub sorted_behind : (low : ℕ) (xs : List ByteRange) (k : ℕ) (d : ByteRange) → IsSortedFrom low xs → k < length xs → IsSortedFrom ((get_or xs k d).end + 1) (drop (suc k) xs)
sorted_behind low [] k d s h = absurd (omega arith)
sorted_behind low (x ∷ xs) zero d s h = s.2
sorted_behind low (x ∷ xs) (suc k) d s h = sorted_behind (x.end + 1) xs k d s.2 (omega arith)

-- a place of the k-th range
pub has_at : (xs : List ByteRange) (k i : ℕ) (d : ByteRange) → k < length xs → (get_or xs k d).start ≤ i → i < (get_or xs k d).end → has xs i ≡ true
has_at [] k i d h a b = absurd (omega arith)
has_at (x ∷ xs) zero i d h a b = has_first x xs i a b
has_at (x ∷ xs) (suc k) i d h a b = rw (has_at xs k i d (omega arith) a b) (or-true (inside x i))

-- a place behind the k-th range
pub has_behind : (low : ℕ) (xs : List ByteRange) (k i : ℕ) (d : ByteRange) → IsSortedFrom low xs → k < length xs → (get_or xs k d).end ≤ i → has xs i ≡ has (drop (suc k) xs) i
has_behind low [] k i d s h a = absurd (omega arith)
has_behind low (x ∷ xs) zero i d s h a = has_later x xs i a
has_behind low (x ∷ xs) (suc k) i d s h a =
    let e = starts_from (x.end + 1) xs k d s.2 (omega arith) in
    has_later x xs i (omega (arith, e, a)) ∙ has_behind (x.end + 1) xs k i d s.2 (omega arith) a

pub gap_behind : (low : ℕ) (xs : List ByteRange) (k : ℕ) (d : ByteRange) → IsSortedFrom low xs → suc k < length xs → (get_or xs k d).end < (get_or xs (suc k) d).start
gap_behind low [] k d s h = absurd (omega arith)
gap_behind low (x ∷ xs) zero d s h = let e = starts_from (x.end + 1) xs 0 d s.2 (omega arith) in omega (arith, e)
gap_behind low (x ∷ xs) (suc k) d s h = gap_behind (x.end + 1) xs k d s.2 (omega arith)

-- a place between two neighbours
pub free_between : (low : ℕ) (xs : List ByteRange) (n i : ℕ) (d : ByteRange) → IsSortedFrom low xs → n ≤ length xs
    → ((k : ℕ) → suc k ≡ n → (get_or xs k d).end ≤ i) → (n < length xs → i < (get_or xs n d).start) → has xs i ≡ false
free_between low [] n i d s b lo hi = refl
free_between low (x ∷ xs) zero i d s b lo hi =
    let h = hi (omega arith) in
    rw (below_is x i h) (has_below (x.end + 1) xs i s.2 (omega (arith, s, h)))
free_between low (x ∷ xs) (suc zero) i d s b lo hi =
    has_later x xs i (lo 0 refl) ∙ free_between (x.end + 1) xs zero i d s.2 (omega arith) (λ k e. absurd (omega arith)) (λ h. hi (omega arith))
free_between low (x ∷ xs) (suc (suc n)) i d s b lo hi =
    let e = starts_from (x.end + 1) xs n d s.2 (omega arith) in
    let a = lo (suc n) refl in
    has_later x xs i (omega (arith, e, a)) ∙ free_between (x.end + 1) xs (suc n) i d s.2 (omega arith) (λ k e. lo (suc k) (ap suc e)) (λ h. hi (omega arith))

-- the last range that starts at the place where r does, or before it, tells whether r is covered
module _ (xs : List ByteRange) (r : ByteRange) (next end : ℕ) (s : IsSortedFrom 0 xs) (n : r.start < r.end) (bound : next ≤ length xs)
    (point : IsPartitionPoint (λ x. x.start ≤ r.start) (λ x. r.start < x.start) xs next)
    (none : next ≡ 0 → end ≡ 0) (some : (d : ByteRange) → 0 < next → end ≡ max 0 (get_or xs (next - 1) d).end) where
  pub covered : r.end ≤ end → Covers xs r
  covered h i a b = elim (cases_lt 0 next) [
    | inl k ↦
        let z = some r k in
        let p = point.0 (next - 1) r (omega arith) (omega (arith, k)) in
        has_at xs (next - 1) i r (omega (arith, bound, k)) (omega (arith, p, a)) (omega (arith, z, h, b))
    | inr k ↦ let z = none (omega arith) in absurd (omega (arith, z, h, n))
  ]

  pub missed : end < r.end → Misses xs r
  missed h = (
    max r.start end,
    omega arith,
    omega (arith, h, n),
    free_between 0 xs next (max r.start end) r s bound
        (λ k e. let z = some r (omega (arith, e)) in let f : k ≡ next - 1 = omega (arith, e) in rw f (omega (arith, z)))
        (λ k. elim (cases_lt 0 next) [
          | inl m ↦
              let z = some r m in
              let p = point.1 next r (omega arith) k in
              let f : suc (next - 1) ≡ next = omega (arith, m) in
              let g' = gap_behind 0 xs (next - 1) r s (omega (arith, f, k)) in
              let g = rw f at g' in
              omega (arith, z, p, g)
          | inr m ↦
              let z = none (omega arith) in
              let p = point.1 next r (omega arith) k in
              omega (arith, z, p)
        ]),
  )

-- the walk where it stands at the ranges that start behind a place
module _ (xs : List ByteRange) (within : ByteRange) (from at next start : ℕ) (s : IsSortedFrom 0 xs) (bound : next ≤ length xs)
    (is : at ≡ max from within.start) (point : IsPartitionPoint (λ x. x.start ≤ at) (λ x. at < x.start) xs next)
    (none : next ≡ 0 → start ≡ within.start) (some : (d : ByteRange) → 0 < next → start ≡ max within.start (get_or xs (next - 1) d).end) where
  pub walked : Walked xs (drop next xs) within from start (max at start)
  walked = elim (cases_lt 0 next) [
    | inl h ↦
        let d = within in
        let k = next - 1 in
        let e : suc k ≡ next = omega (arith, h) in
        let z = some d h in
        let a = point.0 k d (omega arith) (omega (arith, h)) in
        let n = starts_from 0 xs k d s (omega (arith, bound, h)) in
        record {
          order = (omega (arith, z), omega arith, omega (arith, is));
          members = λ i f w b. has_at xs k i d (omega (arith, bound, h)) (omega (arith, is, a, f, w)) (omega (arith, is, z, b, f, w));
          left = λ i w b. has_at xs k i d (omega (arith, bound, h)) (omega (arith, z, b, n, w)) (omega (arith, z, b, w));
          same = λ i b. let g = has_behind 0 xs k i d s (omega (arith, bound, h)) (omega (arith, z, b)) in sym (rw e at g);
          low = (get_or xs k d).end + 1;
          sorted = let g = sorted_behind 0 xs k d s (omega (arith, bound, h)) in rw e at g;
        }
    | inr h ↦
        let e : next ≡ 0 = omega arith in
        let z = none e in
        record {
          order = (omega (arith, z), omega arith, omega (arith, is));
          members = λ i f w b. absurd (omega (arith, is, z, f, w, b));
          left = λ i w b. absurd (omega (arith, z, w, b));
          same = λ i b. rw e refl;
          low = 0;
          sorted = rw e s;
        }
  ]

  pub ahead : (d : ByteRange) → next < length xs → max at start < (get_or xs next d).start
  ahead d h =
      let p = point.1 next d (omega arith) h in
      elim (cases_lt 0 next) [
        | inl k ↦
            let z = some d k in
            let f : suc (next - 1) ≡ next = omega (arith, k) in
            let g' = gap_behind 0 xs (next - 1) d s (omega (arith, f, h)) in
            let g = rw f at g' in
            omega (arith, z, p, g, is)
        | inr k ↦ let z = none (omega arith) in omega (arith, z, p, is)
      ]
