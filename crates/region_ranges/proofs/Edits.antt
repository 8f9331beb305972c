-- The places and the order after a range was put in or cut out.
use Rattle.std.proofs.Common.{arith, ◌≡◌, ◌<◌, ◌≤◌, ◌+◌, ◌-◌, ◌++◌, ℕ, zero, suc, Bool, true, false, List, [], ◌∷◌, sym, ◌∙◌, ap, inl, inr, refl, get_or, length, take, drop}
use Rattle.std.specs.Prelude.{◌&&◌, ◌||◌, nat_lt, nat_le, min, max, not, if◌then◌else◌}
use Rattle.std.specs.List.{AllWithin}
use Rattle.std.specs.List.Sorted.{IsPartitionPoint}
use Rattle.std.proofs.lemmas.Bool.{cases_lt}
use Rattle.std.proofs.lemmas.Bool.Decides.{nat_tests}
use Rattle.region_ranges.specs.declared.ranges.ByteRange.{ByteRange}
use Rattle.region_ranges.specs.Ranges.{inside, has, IsSortedFrom}
use Rattle.std.proofs.Math.Bool.{and-true, and-false, or_assoc}
use Rattle.region_ranges.proofs.Points.{starts_from, sorted_from}
use Rattle.region_ranges.proofs.Walks.{above_is, below_is, has_below}

pub or_swap : (a b c : Bool) → (a || (b || c)) ≡ (b || (a || c))
or_swap true true c = refl
or_swap true false c = refl
or_swap false true c = refl
or_swap false false c = refl

-- a partition of a list, seen from its second element
pub later_before : {X : Type 0} (P : X → Type 0) (x : X) (xs : List X) (n : ℕ) → AllWithin P (x ∷ xs) 0 (suc n) → AllWithin P xs 0 n
later_before P x xs n b k d l h = b (suc k) d (omega arith) (omega arith)

pub later_from : {X : Type 0} (Q : X → Type 0) (x : X) (xs : List X) (n : ℕ) → AllWithin Q (x ∷ xs) (suc n) (length (x ∷ xs)) → AllWithin Q xs n (length xs)
later_from Q x xs n b k d l h = b (suc k) d (omega arith) (omega arith)

module _ (r : ByteRange) (d : ByteRange) where
  -- a range in front of r stays
  in_front : (x : ByteRange) (i : ℕ) (b : Bool) → x.end ≤ r.start → (inside x i || (b && not (inside r i))) ≡ ((inside x i || b) && not (inside r i))
  in_front x i b h = elim (cases_lt i x.end) [
    | inl k ↦ let e = below_is r i (omega arith) in rw e (ap (λ (t : Bool). inside x i || t) (and-true b) ∙ sym (and-true (inside x i || b)))
    | inr k ↦ let e = above_is x i k in rw e refl
  ]

  has_joined : (x : ByteRange) (xs : List ByteRange) (l i : ℕ) → IsSortedFrom (x.end + 1) xs → x.start < x.end → r.start ≤ x.end → AllWithin (λ y. y.start ≤ r.end) (x ∷ xs) 0 (suc l) → l < length (x ∷ xs)
      → has (record { start = min r.start x.start; end = max r.end (get_or (x ∷ xs) l d).end } ∷ drop l xs) i ≡ (inside r i || (inside x i || has xs i))
  has_joined x xs zero i s n h b k =
      let c = b 0 d (omega arith) (omega arith) in
      let e : inside (record { start = min r.start x.start; end = max r.end x.end }) i ≡ (inside r i || inside x i) = grind (arith, nat_tests) in
      rw e (or_assoc (inside r i) (inside x i) (has xs i))
  has_joined x [] (suc l) i s n h b k = absurd (omega arith)
  has_joined x (y ∷ ys) (suc l) i s n h b k =
      let c = b 0 d (omega arith) (omega arith) in
      let c' = b 1 d (omega arith) (omega arith) in
      let last = (get_or (y ∷ ys) l d).end in
      let e : inside (record { start = min r.start x.start; end = max r.end last }) i ≡ (inside x i || inside (record { start = min r.start y.start; end = max r.end last }) i) = grind (arith, nat_tests) in
      let ih = has_joined y ys l i s.2 s.1 (omega arith) (λ j t a u. b (suc j) t (omega arith) (omega arith)) (omega arith) in
      rw e (or_assoc (inside x i) _ _ ∙ ap (λ (t : Bool). inside x i || t) ih ∙ or_swap (inside x i) (inside r i) (inside y i || has ys i))

  sorted_joined : (low : ℕ) (x : ByteRange) (xs : List ByteRange) (l : ℕ) → IsSortedFrom low (x ∷ xs) → low ≤ r.start → r.start < r.end → l < length (x ∷ xs) → AllWithin (λ y. r.end < y.start) (x ∷ xs) (suc l) (length (x ∷ xs))
      → IsSortedFrom low (record { start = min r.start x.start; end = max r.end (get_or (x ∷ xs) l d).end } ∷ drop l xs)
  sorted_joined low x xs zero s h n k b = (omega (arith, s), omega (arith, s), sorted_from (x.end + 1) _ xs s.2 (λ t m. let a = b 1 t (omega arith) (omega arith) in let e = starts_from (x.end + 1) xs 0 t s.2 m in omega (arith, a, e)))
  sorted_joined low x [] (suc l) s h n k b = absurd (omega arith)
  sorted_joined low x (y ∷ ys) (suc l) s h n k b =
      let ih = sorted_joined 0 y ys l (omega arith, s.2.1, s.2.2) (omega arith) n (omega arith) (later_from (λ y. r.end < y.start) x (y ∷ ys) (suc l) b) in
      (omega (arith, s), omega (arith, s, ih), ih.2)

  -- a range that meets or touches some takes their place
  pub met : (low : ℕ) (xs : List ByteRange) (f m : ℕ) → IsSortedFrom low xs → low ≤ r.start → r.start < r.end → f ≤ m → m < length xs
      → IsPartitionPoint (λ x. x.end < r.start) (λ x. r.start ≤ x.end) xs f → IsPartitionPoint (λ x. x.start ≤ r.end) (λ x. r.end < x.start) xs (suc m)
      → IsSortedFrom low (take f xs ++ record { start = min r.start (get_or xs f d).start; end = max r.end (get_or xs m d).end } ∷ drop (suc m) xs)
      × ((i : ℕ) → has (take f xs ++ record { start = min r.start (get_or xs f d).start; end = max r.end (get_or xs m d).end } ∷ drop (suc m) xs) i ≡ (inside r i || has xs i))
  met low [] f m s h n le lt p q = absurd (omega arith)
  met low (x ∷ xs) zero m s h n le lt p q =
      let a = p.1 0 d (omega arith) (omega arith) in
      (sorted_joined low x xs m s h n lt q.1, λ i. has_joined x xs m i s.2 s.1 a q.0 lt)
  met low (x ∷ xs) (suc f) zero s h n le lt p q = absurd (omega arith)
  met low (x ∷ xs) (suc f) (suc m) s h n le lt p q =
      let a = p.0 0 d (omega arith) (omega arith) in
      let ih = met (x.end + 1) xs f m s.2 (omega (arith, a)) n (omega arith) (omega arith)
      (later_before (λ y. y.end < r.start) x xs f p.0, later_from (λ y. r.start ≤ y.end) x xs f p.1)
      (later_before (λ y. y.start ≤ r.end) x xs (suc m) q.0, later_from (λ y. r.end < y.start) x xs (suc m) q.1) in
      ((s.0, s.1, ih.0), λ i. rw (ih.1 i) (or_swap (inside x i) (inside r i) (has xs i)))

  -- a range that meets and touches none stands between two
  pub unmet : (low : ℕ) (xs : List ByteRange) (f l : ℕ) → IsSortedFrom low xs → low ≤ r.start → r.start < r.end → l ≤ f → f ≤ length xs
      → IsPartitionPoint (λ x. x.end < r.start) (λ x. r.start ≤ x.end) xs f → IsPartitionPoint (λ x. x.start ≤ r.end) (λ x. r.end < x.start) xs l
      → IsSortedFrom low (take f xs ++ r ∷ drop f xs) × ((i : ℕ) → has (take f xs ++ r ∷ drop f xs) i ≡ (inside r i || has xs i))
  unmet low xs zero l s h n le lt p q = ((h, n, sorted_from low (r.end + 1) xs s (λ t m. let a = q.1 0 t (omega arith) m in omega (arith, a))), λ i. refl)
  unmet low [] (suc f) l s h n le lt p q = absurd (omega arith)
  unmet low (x ∷ xs) (suc f) zero s h n le lt p q =
      let a = p.0 0 d (omega arith) (omega arith) in let b = q.1 0 d (omega arith) (omega arith) in absurd (omega (arith, a, b, s))
  unmet low (x ∷ xs) (suc f) (suc l) s h n le lt p q =
      let a = p.0 0 d (omega arith) (omega arith) in
      let ih = unmet (x.end + 1) xs f l s.2 (omega (arith, a)) n (omega arith) (omega arith)
      (later_before (λ y. y.end < r.start) x xs f p.0, later_from (λ y. r.start ≤ y.end) x xs f p.1)
      (later_before (λ y. y.start ≤ r.end) x xs l q.0, later_from (λ y. r.end < y.start) x xs l q.1) in
      ((s.0, s.1, ih.0), λ i. rw (ih.1 i) (or_swap (inside x i) (inside r i) (has xs i)))

  -- what is left of a range on either side
  abbrev pub left_of : ByteRange → List ByteRange
  left_of x = if nat_lt x.start r.start then record { start = x.start; end = r.start } ∷ [] else []

  abbrev pub right_of : ByteRange → List ByteRange
  right_of x = if nat_lt r.end x.end then record { start = r.end; end = x.end } ∷ [] else []

  has_right : (x : ByteRange) (xs : List ByteRange) (m i : ℕ) → IsSortedFrom (x.end + 1) xs → x.start < x.end → m < length (x ∷ xs)
      → IsPartitionPoint (λ y. y.start < r.end) (λ y. r.end ≤ y.start) (x ∷ xs) (suc m)
      → has (right_of (get_or (x ∷ xs) m d) ++ drop m xs) i ≡ ((inside x i || has xs i) && nat_le r.end i)
  has_right x xs zero i s n k q =
      let a = q.0 0 d (omega arith) (omega arith) in
      let t = sorted_from (x.end + 1) r.end xs s (λ t m. q.1 1 t (omega arith) (omega arith)) in
      elim (cases_lt i r.end) [
        | inl h ↦
            let e = has_below r.end xs i t h in
            let b : nat_le r.end i ≡ false = grind (arith, nat_tests) in
            elim (cases_lt r.end x.end) [
              | inl k ↦ let c : nat_lt r.end x.end ≡ true = grind (arith, nat_tests) in let g : inside (record { start = r.end; end = x.end }) i ≡ false = grind (arith, nat_tests) in rw (c, g, e, b) (sym (and-false (inside x i || false)))
              | inr k ↦ let c : nat_lt r.end x.end ≡ false = grind (arith, nat_tests) in rw (c, e, b) (sym (and-false (inside x i || false)))
            ]
        | inr h ↦
            let b : nat_le r.end i ≡ true = grind (arith, nat_tests) in
            elim (cases_lt r.end x.end) [
              | inl k ↦ let c : nat_lt r.end x.end ≡ true = grind (arith, nat_tests) in let g : inside (record { start = r.end; end = x.end }) i ≡ inside x i = grind (arith, nat_tests) in rw (c, g, b) (sym (and-true (inside x i || has xs i)))
              | inr k ↦ let c : nat_lt r.end x.end ≡ false = grind (arith, nat_tests) in let g : inside x i ≡ false = grind (arith, nat_tests) in rw (c, g, b) (sym (and-true (has xs i)))
            ]
      ]
  has_right x [] (suc m) i s n k q = absurd (omega arith)
  has_right x (y ∷ ys) (suc m) i s n k q =
      let a = q.0 1 d (omega arith) (omega arith) in
      let ih = has_right y ys m i s.2 s.1 (omega arith) (later_before (λ y. y.start < r.end) x (y ∷ ys) (suc m) q.0, later_from (λ y. r.end ≤ y.start) x (y ∷ ys) (suc m) q.1) in
      elim (cases_lt i r.end) [
        | inl h ↦ let b : nat_le r.end i ≡ false = grind (arith, nat_tests) in ih ∙ rw b (and-false (inside y i || has ys i) ∙ sym (and-false (inside x i || (inside y i || has ys i))))
        | inr h ↦ let g : inside x i ≡ false = above_is x i (omega (arith, s, a)) in ih ∙ rw g refl
      ]

  sorted_right : (x : ByteRange) (xs : List ByteRange) (m : ℕ) → IsSortedFrom (x.end + 1) xs → m < length (x ∷ xs)
      → IsPartitionPoint (λ y. y.start < r.end) (λ y. r.end ≤ y.start) (x ∷ xs) (suc m)
      → IsSortedFrom r.end (right_of (get_or (x ∷ xs) m d) ++ drop m xs)
  sorted_right x xs zero s k q = elim (cases_lt r.end x.end) [
    | inl h ↦ let c : nat_lt r.end x.end ≡ true = grind (arith, nat_tests) in rw c (omega arith, h, s)
    | inr h ↦ let c : nat_lt r.end x.end ≡ false = grind (arith, nat_tests) in rw c (sorted_from (x.end + 1) r.end xs s (λ t m. q.1 1 t (omega arith) (omega arith)))
  ]
  sorted_right x [] (suc m) s k q = absurd (omega arith)
  sorted_right x (y ∷ ys) (suc m) s k q = sorted_right y ys m s.2 (omega arith) (later_before (λ y. y.start < r.end) x (y ∷ ys) (suc m) q.0, later_from (λ y. r.end ≤ y.start) x (y ∷ ys) (suc m) q.1)

  -- what is left of the ranges that a range meets
  pub cut : (low : ℕ) (xs : List ByteRange) (f m : ℕ) → IsSortedFrom low xs → r.start < r.end → f ≤ m → m < length xs
      → IsPartitionPoint (λ x. x.end ≤ r.start) (λ x. r.start < x.end) xs f → IsPartitionPoint (λ x. x.start < r.end) (λ x. r.end ≤ x.start) xs (suc m)
      → IsSortedFrom low (take f xs ++ (left_of (get_or xs f d) ++ (right_of (get_or xs m d) ++ drop (suc m) xs)))
      × ((i : ℕ) → has (take f xs ++ (left_of (get_or xs f d) ++ (right_of (get_or xs m d) ++ drop (suc m) xs))) i ≡ (has xs i && not (inside r i)))
  cut low [] f m s n le lt p q = absurd (omega arith)
  cut low (x ∷ xs) zero m s n le lt p q =
      let a = p.1 0 d (omega arith) (omega arith) in
      let b = q.0 0 d (omega arith) (omega arith) in
      let rest = right_of (get_or (x ∷ xs) m d) ++ drop m xs in
      let t = sorted_right x xs m s.2 lt q in
      let first : (y : ByteRange) → 0 < length rest → r.end ≤ (get_or rest 0 y).start = λ y k. (starts_from r.end rest 0 y t k).0 in
      let places : (i : ℕ) → has rest i ≡ ((inside x i || has xs i) && nat_le r.end i) = λ i. has_right x xs m i s.2 s.1 lt q in
      elim (cases_lt x.start r.start) [
        | inl h ↦
            let c : nat_lt x.start r.start ≡ true = grind (arith, nat_tests) in
            rw c ((s.0, h, sorted_from r.end (r.start + 1) rest t (λ y k. let e = first y k in omega (arith, e))), λ i. rw (places i) (both x xs i s a b h))
        | inr h ↦
            let c : nat_lt x.start r.start ≡ false = grind (arith, nat_tests) in
            rw c (sorted_from r.end low rest t (λ y k. let e = first y k in omega (arith, e, s)), λ i. places i ∙ behind x xs i s a b h)
      ]
    where
      both : (x : ByteRange) (xs : List ByteRange) (i : ℕ) → IsSortedFrom low (x ∷ xs) → r.start < x.end → x.start < r.end → x.start < r.start
          → (inside (record { start = x.start; end = r.start }) i || ((inside x i || has xs i) && nat_le r.end i)) ≡ ((inside x i || has xs i) && not (inside r i))
      both x xs i s a b h = elim (cases_lt i x.end) [
        | inl k ↦ let e = has_below (x.end + 1) xs i s.2 (omega arith) in rw e (grind (arith, nat_tests))
        | inr k ↦ let e = above_is x i k in let g : inside (record { start = x.start; end = r.start }) i ≡ false = grind (arith, nat_tests) in let v : nat_le r.end i ≡ not (inside r i) = grind (arith, nat_tests) in rw (e, g, v) refl
      ]

      behind : (x : ByteRange) (xs : List ByteRange) (i : ℕ) → IsSortedFrom low (x ∷ xs) → r.start < x.end → x.start < r.end → r.start ≤ x.start
          → ((inside x i || has xs i) && nat_le r.end i) ≡ ((inside x i || has xs i) && not (inside r i))
      behind x xs i s a b h = elim (cases_lt i x.end) [
        | inl k ↦ let e = has_below (x.end + 1) xs i s.2 (omega arith) in rw e (grind (arith, nat_tests))
        | inr k ↦ let v : nat_le r.end i ≡ not (inside r i) = grind (arith, nat_tests) in rw v refl
      ]
  cut low (x ∷ xs) (suc f) zero s n le lt p q = absurd (omega arith)
  cut low (x ∷ xs) (suc f) (suc m) s n le lt p q =
      let a = p.0 0 d (omega arith) (omega arith) in
      let ih = cut (x.end + 1) xs f m s.2 n (omega arith) (omega arith)
      (later_before (λ y. y.end ≤ r.start) x xs f p.0, later_from (λ y. r.start < y.end) x xs f p.1)
      (later_before (λ y. y.start < r.end) x xs (suc m) q.0, later_from (λ y. r.end ≤ y.start) x xs (suc m) q.1) in
      ((s.0, s.1, ih.0), λ i. rw (ih.1 i) (in_front x i (has xs i) a))

  -- a range that meets none takes nothing out
  pub uncut : (low : ℕ) (xs : List ByteRange) (f l i : ℕ) → IsSortedFrom low xs → r.start < r.end → l ≤ f → f ≤ length xs
      → IsPartitionPoint (λ x. x.end ≤ r.start) (λ x. r.start < x.end) xs f → IsPartitionPoint (λ x. x.start < r.end) (λ x. r.end ≤ x.start) xs l
      → has xs i ≡ (has xs i && not (inside r i))
  uncut low xs zero l i s n le lt p q = elim (cases_lt i r.end) [
    | inl h ↦ let e = has_below r.end xs i (sorted_from low r.end xs s (λ t m. q.1 0 t (omega arith) m)) h in rw e refl
    | inr h ↦ let e = above_is r i h in rw e (sym (and-true (has xs i)))
  ]
  uncut low [] (suc f) l i s n le lt p q = absurd (omega arith)
  uncut low (x ∷ xs) (suc f) zero i s n le lt p q =
      let a = p.0 0 d (omega arith) (omega arith) in let b = q.1 0 d (omega arith) (omega arith) in absurd (omega (arith, a, b, s))
  uncut low (x ∷ xs) (suc f) (suc l) i s n le lt p q =
      let a = p.0 0 d (omega arith) (omega arith) in
      let ih = uncut (x.end + 1) xs f l i s.2 n (omega arith) (omega arith)
      (later_before (λ y. y.end ≤ r.start) x xs f p.0, later_from (λ y. r.start < y.end) x xs f p.1)
      (later_before (λ y. y.start < r.end) x xs l q.0, later_from (λ y. r.end ≤ y.start) x xs l q.1) in
      ap (λ (t : Bool). inside x i || t) ih ∙ in_front x i (has xs i) a

-- the same as the functions of the edits tell it
module _ (r : ByteRange) (xs : List ByteRange) (f l a b : ℕ) (s : IsSortedFrom 0 xs) (n : r.start < r.end) (lt : f < l) (le : l ≤ length xs) (start : (d : ByteRange) → a ≡ (get_or xs f d).start) (end : (d : ByteRange) → b ≡ (get_or xs (l - 1) d).end) where
  last : suc (l - 1) ≡ l
  last = omega (arith, lt)

  pub met_is : (ys : List ByteRange) → IsPartitionPoint (λ x. x.end < r.start) (λ x. r.start ≤ x.end) xs f → IsPartitionPoint (λ x. x.start ≤ r.end) (λ x. r.end < x.start) xs l
      → ys ≡ take f xs ++ record { start = min r.start a; end = max r.end b } ∷ drop l xs
      → IsSortedFrom 0 ys × ((i : ℕ) → has ys i ≡ (inside r i || has xs i))
  met_is ys p q is =
      let k = met r r 0 xs f (l - 1) s (omega arith) n (omega (arith, lt)) (omega (arith, lt, le)) p (rw last q) in
      let k' = rw last at k in
      rw (is, start r, end r) k'

  pub cut_is : (ys : List ByteRange) → IsPartitionPoint (λ x. x.end ≤ r.start) (λ x. r.start < x.end) xs f → IsPartitionPoint (λ x. x.start < r.end) (λ x. r.end ≤ x.start) xs l
      → ys ≡ take f xs ++ (left_of r r (record { start = a; end = b }) ++ (right_of r r (record { start = a; end = b }) ++ drop l xs))
      → IsSortedFrom 0 ys × ((i : ℕ) → has ys i ≡ (has xs i && not (inside r i)))
  cut_is ys p q is =
      let k = cut r r 0 xs f (l - 1) s n (omega (arith, lt)) (omega (arith, lt, le)) p (rw last q) in
      let k' = rw last at k in
      rw (is, start r, end r) k'
