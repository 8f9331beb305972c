-- The run that was found, read from the list of free places.
use Rattle.std.proofs.Common.{arith, ◌≡◌, ◌<◌, ◌≤◌, ◌+◌, ◌-◌, ℕ, zero, suc, Bool, true, false, List, [], ◌∷◌, sym, ◌∙◌, ap, inl, inr, refl, length, drop, take, get_or, Option, Some, None, length-drop, length-take}
use Rattle.std.specs.Prelude.{IfSome, IfNone, nat_lt, max, not, map, reverse}
use Rattle.std.specs.List.{prefix_len, range_with_len}
use Rattle.std.proofs.lemmas.Bool.{cases_lt, cases_Bool}
use Rattle.std.proofs.lemmas.Bool.Decides.{nat_tests}
use Rattle.std.proofs.lemmas.List.{get_or-drop, get_or-take, get_or-reverse, length-map, length-reverse}
use Rattle.std.proofs.lemmas.List.FromFn.{length-range_with_len}
use Rattle.region_ranges.specs.declared.ranges.ByteRange.{ByteRange}
use Rattle.region_ranges.specs.Ranges.{has, IsFirstRun, first_run, run_at, free_below}

pub prefix_is : {X : Type 0} (q : X → Bool) (xs : List X) (n : ℕ) (d : X) → n ≤ length xs → ((i : ℕ) → i < n → q (get_or xs i d) ≡ true) → (n < length xs → q (get_or xs n d) ≡ false) → prefix_len q xs ≡ n
prefix_is q [] n d l h e = omega arith
prefix_is q (x ∷ xs) zero d l h e = let f : q x ≡ false = e (omega arith) in rw f refl
prefix_is q (x ∷ xs) (suc n) d l h e =
    let t : q x ≡ true = h 0 (omega arith) in
    rw (t, prefix_is q xs n d (omega arith) (λ i k. h (suc i) (omega arith)) (λ k. e (omega arith))) (omega arith)

pub at_range : {X : Type 0} (f : ℕ → X) (a n i : ℕ) (d : X) → i < n → get_or (map f (range_with_len a n)) i d ≡ f (a + i)
at_range f a zero i d h = absurd (omega arith)
at_range f a (suc n) zero d h = let e : a ≡ a + 0 = omega arith in ap f e
at_range f a (suc n) (suc i) d h = let e : a + 1 + i ≡ a + suc i = omega arith in at_range f (a + 1) n i d (omega arith) ∙ ap f e

pub length-free : (rs : List ByteRange) (n : ℕ) → length (free_below rs n) ≡ n
length-free rs n = length-map (range_with_len 0 n) (λ i. not (has rs i)) ∙ length-range_with_len 0 n

pub at_free : (rs : List ByteRange) (n i : ℕ) (d b : Bool) → i < n → has rs i ≡ b → get_or (free_below rs n) i d ≡ not b
at_free rs n i d b h e = at_range (λ k. not (has rs k)) 0 n i d h ∙ (let z : 0 + i ≡ i = omega arith in rw (z, e) refl)

module _ (rs : List ByteRange) (within : ByteRange) (from : ℕ) (run : ByteRange) (is : IsFirstRun (has rs) within from run) where
  to_first : max from within.start + prefix_len not (drop (max from within.start) (free_below rs within.end)) ≡ max (max from within.start) run.start
  to_first =
      let m = max from within.start in
      let n = max m run.start - m in
      let l : length (free_below rs within.end) ≡ within.end = length-free rs within.end in
      let b : length (drop m (free_below rs within.end)) ≡ within.end - m = length-drop m (free_below rs within.end) ∙ ap (λ (k : ℕ). k - m) l in
      let e : prefix_len not (drop m (free_below rs within.end)) ≡ n = prefix_is not (drop m (free_below rs within.end)) n true (omega (arith, is.inside, is.reached))
      (λ i h. let g : get_or (free_below rs within.end) (m + i) true ≡ false = at_free rs within.end (m + i) true true (omega (arith, is.inside, is.reached)) (is.first (m + i) (omega arith) (omega arith) (omega arith)) in
      rw (get_or-drop m (free_below rs within.end) i true, g) refl)
      (λ h. let g : get_or (free_below rs within.end) (m + n) true ≡ true = at_free rs within.end (m + n) true false (omega (arith, is.inside, is.reached)) (is.free (m + n) (omega (arith, is.inside)) (omega (arith, is.inside, is.reached))) in
      rw (get_or-drop m (free_below rs within.end) n true, g) refl) in
      rw e (omega (arith, is.inside))

  module _ (f : ℕ) (f_is : f ≡ max (max from within.start) run.start) where
    f_in : (run.start ≤ f) × (f < run.end) × (f < within.end)
    f_in = (omega arith, omega (arith, is.inside, is.reached), omega (arith, is.inside, is.reached))

    to_end : f + prefix_len (λ b. b) (drop f (free_below rs within.end)) ≡ run.end
    to_end =
        let l : length (free_below rs within.end) ≡ within.end = length-free rs within.end in
        let b : length (drop f (free_below rs within.end)) ≡ within.end - f = length-drop f (free_below rs within.end) ∙ ap (λ (k : ℕ). k - f) l in
        let n = run.end - f in
        let e : prefix_len (λ b. b) (drop f (free_below rs within.end)) ≡ n = prefix_is (λ b. b) (drop f (free_below rs within.end)) n true (omega (arith, is.inside))
        (λ i h. get_or-drop f (free_below rs within.end) i true ∙ at_free rs within.end (f + i) true false (omega (arith, is.inside)) (is.free (f + i) (omega (arith, f_in)) (omega arith)))
        (λ h. get_or-drop f (free_below rs within.end) n true ∙ at_free rs within.end (f + n) true true (omega arith) (let z : f + n ≡ run.end = omega (arith, f_in) in rw z (is.right (omega (arith, z))))) in
        rw e (omega (arith, f_in))

    to_start : f - prefix_len (λ b. b) (reverse (drop within.start (take f (free_below rs within.end)))) ≡ run.start
    to_start =
        let l : length (free_below rs within.end) ≡ within.end = length-free rs within.end in
        let xs = drop within.start (take f (free_below rs within.end)) in
        let t : length (take f (free_below rs within.end)) ≡ f = length-take f (free_below rs within.end) ∙ omega (arith, l, f_in) in
        let b : length xs ≡ f - within.start = length-drop within.start (take f (free_below rs within.end)) ∙ ap (λ (k : ℕ). k - within.start) t in
        let r : length (reverse xs) ≡ length xs = length-reverse xs in
        let n = f - run.start in
        let here : (i : ℕ) → i < length xs → get_or (reverse xs) i true ≡ get_or (free_below rs within.end) (f - 1 - i) true = λ i h.
        get_or-reverse xs i true h ∙ get_or-drop within.start (take f (free_below rs within.end)) (length xs - 1 - i) true
        ∙ get_or-take f (free_below rs within.end) (within.start + (length xs - 1 - i)) true (omega (arith, b, h))
        ∙ ap (λ (k : ℕ). get_or (free_below rs within.end) k true) (let e : within.start + (length xs - 1 - i) ≡ f - 1 - i = omega (arith, b, h) in e) in
        let e : prefix_len (λ b. b) (reverse xs) ≡ n = prefix_is (λ b. b) (reverse xs) n true (omega (arith, is.inside, f_in, b, r))
        (λ i h. here i (omega (arith, is.inside, f_in, b, h)) ∙ at_free rs within.end (f - 1 - i) true false (omega (arith, f_in)) (is.free (f - 1 - i) (omega (arith, f_in, h)) (omega (arith, f_in, h))))
        (λ h. here n (omega (arith, b, r, h)) ∙ at_free rs within.end (f - 1 - n) true true (omega (arith, f_in)) (is.left (f - 1 - n) (omega (arith, is.inside, f_in, b, r, h)) (omega (arith, is.inside, f_in, b, r, h)))) in
        rw e (omega (arith, f_in))

    run_is : run_at (free_below rs within.end) within.start f ≡ Some run
    run_is =
        let l : length (free_below rs within.end) ≡ within.end = length-free rs within.end in
        let t : nat_lt f (length (free_below rs within.end)) ≡ true = rw l (grind (arith, nat_tests, f_in)) in
        rw (t, to_start, to_end) refl

  pub first_run_is : first_run (free_below rs within.end) within.start from ≡ Some run
  first_run_is = rw to_first (run_is (max (max from within.start) run.start) refl)

pub no_run : (rs : List ByteRange) (within : ByteRange) (from : ℕ) → ((i : ℕ) → from ≤ i → within.start ≤ i → i < within.end → has rs i ≡ true) → first_run (free_below rs within.end) within.start from ≡ None
no_run rs within from h =
    let m = max from within.start in
    let l : length (free_below rs within.end) ≡ within.end = length-free rs within.end in
    let n = length (drop m (free_below rs within.end)) in
    let b : n ≡ within.end - m = length-drop m (free_below rs within.end) ∙ ap (λ (k : ℕ). k - m) l in
    let e : prefix_len not (drop m (free_below rs within.end)) ≡ n = prefix_is not (drop m (free_below rs within.end)) n true (omega arith)
    (λ i k. let g : get_or (free_below rs within.end) (m + i) true ≡ false = at_free rs within.end (m + i) true true (omega (arith, b, k)) (h (m + i) (omega arith) (omega arith) (omega (arith, b, k))) in
    rw (get_or-drop m (free_below rs within.end) i true, g) refl)
    (λ k. absurd (omega (arith, k))) in
    let t : nat_lt (m + n) (length (free_below rs within.end)) ≡ false = rw l (grind (arith, nat_tests, b)) in
    rw (e, t) refl

pub is_run : (rs : List ByteRange) (within : ByteRange) (from : ℕ) (o : Option ByteRange) → IfSome o (IsFirstRun (has rs) within from) → IfNone o ((i : ℕ) → from ≤ i → within.start ≤ i → i < within.end → has rs i ≡ true) → o ≡ first_run (free_below rs within.end) within.start from
is_run rs within from (Some run) some none = sym (first_run_is rs within from run some)
is_run rs within from None some none = sym (no_run rs within from none)

-- ---- the other way round

pub prefix_all : {X : Type 0} (q : X → Bool) (xs : List X) (i : ℕ) (d : X) → i < prefix_len q xs → q (get_or xs i d) ≡ true
prefix_all q [] i d h = absurd (omega arith)
prefix_all q (x ∷ xs) zero d h = elim (cases_Bool (q x)) [
  | inl t ↦ t
  | inr f ↦ absurd (let k = rw f at h in omega (arith, k))
]
prefix_all q (x ∷ xs) (suc i) d h = elim (cases_Bool (q x)) [
  | inl t ↦ let k = rw t at h in prefix_all q xs i d (omega (arith, k))
  | inr f ↦ absurd (let k = rw f at h in omega (arith, k))
]

pub prefix_end : {X : Type 0} (q : X → Bool) (xs : List X) (d : X) → prefix_len q xs < length xs → q (get_or xs (prefix_len q xs) d) ≡ false
prefix_end q [] d h = absurd (omega arith)
prefix_end q (x ∷ xs) d h = elim (cases_Bool (q x)) [
  | inl t ↦ let k = rw t at h in let e : 1 + prefix_len q xs ≡ suc (prefix_len q xs) = omega arith in rw (t, e) (prefix_end q xs d (omega (arith, k)))
  | inr f ↦ rw f f
]

-- the run that was found holds the place that it was found from
pub holds_place : (free : List Bool) (start f : ℕ) (run : ByteRange) → run_at free start f ≡ Some run → get_or free f true ≡ true → (f < length free) × (run.start ≤ f) × (f < run.end)
holds_place free start f run e t = elim (cases_lt f (length free)) [
  | inl h ↦
      let n : nat_lt f (length free) ≡ true = grind (arith, nat_tests) in
      let p = prefix_len (λ b. b) (drop f free) in
      let r = rw n at e in
      let l : length (drop f free) ≡ length free - f = length-drop f free in
      let some : 0 < p = elim (cases_lt 0 p) [
        | inl k ↦ k
        | inr k ↦
            let z : p ≡ 0 = omega arith in
            let last = prefix_end (λ b. b) (drop f free) true (omega (arith, l, z)) in
            let here : get_or (drop f free) 0 true ≡ false = rw z at last in
            absurd (let w : get_or free (f + 0) true ≡ false = sym (get_or-drop f free 0 true) ∙ here in let y : f + 0 ≡ f = omega arith in let v = rw y at w in let x : true ≡ false = sym t ∙ v in cc)
      ] in
      let is : ByteRange = record { start = f - prefix_len (λ b. b) (reverse (drop start (take f free))); end = f + prefix_len (λ b. b) (drop f free) } in
      let same : is ≡ run = cc in
      let first : is.start ≡ run.start = ap (λ (x : ByteRange). x.start) same in
      let last : is.end ≡ run.end = ap (λ (x : ByteRange). x.end) same in
      (h, omega (arith, first), omega (arith, last, some))
  | inr h ↦ let n : nat_lt f (length free) ≡ false = grind (arith, nat_tests) in absurd (let r = rw n at e in cc)
]

-- the place from which the first run is found is free
pub first_free : (free : List Bool) (m : ℕ) → m + prefix_len not (drop m free) < length free → get_or free (m + prefix_len not (drop m free)) true ≡ true
first_free free m h =
    let l : length (drop m free) ≡ length free - m = length-drop m free in
    let e = prefix_end not (drop m free) true (omega (arith, l)) in
    let g : not (get_or free (m + prefix_len not (drop m free)) true) ≡ false = ap not (sym (get_or-drop m free (prefix_len not (drop m free)) true)) ∙ e in
    elim (cases_Bool (get_or free (m + prefix_len not (drop m free)) true)) [
      | inl t ↦ t
      | inr f ↦ absurd (let k = rw f at g in cc)
    ]

-- so a run that was found is not empty
pub not_empty : (free : List Bool) (start from : ℕ) (run : ByteRange) → first_run free start from ≡ Some run → run.start < run.end
not_empty free start from run e =
    let m = max from start in
    let f = m + prefix_len not (drop m free) in
    elim (cases_lt f (length free)) [
      | inl h ↦ let k = holds_place free start f run e (first_free free m h) in omega (arith, k)
      | inr h ↦ let n : nat_lt f (length free) ≡ false = grind (arith, nat_tests) in absurd (let r = rw n at e in cc)
    ]
