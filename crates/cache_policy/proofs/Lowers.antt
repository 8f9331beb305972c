-- One list is lowered, entry by entry.
use Rattle.std.proofs.Common.{arith, ◌≡◌, ◌<◌, ◌≤◌, ◌+◌, ℕ, zero, suc, Bool, true, false, List, [], ◌∷◌, ◌++◌, ◌∙◌, ap, inl, inr, refl, length, take, drop, Some, None, append_assoc, append-nil}
use Rattle.std.specs.Prelude.{not, ◌==◌, filter, slice_get}
use Rattle.std.proofs.lemmas.Bool.{cases_eq, cases_Bool, eq-eqb, ne_eqb}
use Rattle.std.proofs.lemmas.List.Elements.{filter-append}
use Rattle.cache_policy.proofs.Candidates.{head_get}
use Rattle.freq_lists.specs.Lists.{without, unlink, push_back, times, times_in, next, behind, is_in, head, list_at}
use Rattle.cache_policy.specs.Steps.{lowering}
use Rattle.freq_lists.proofs.Counts.{times_append}
use Rattle.freq_lists.proofs.Beside.{without_none}

pub without_one : (n : ℕ) (xs ys : List ℕ) → times_in n (xs ++ n ∷ ys) ≤ 1 → without n (xs ++ n ∷ ys) ≡ xs ++ ys
without_one n xs ys h =
    let t : times_in n (n ∷ ys) ≡ 1 + times_in n ys = rw (eq-eqb n n refl) refl in
    let a : times_in n xs ≡ 0 = omega (arith, h, times_append n xs (n ∷ ys), t) in
    let b : times_in n ys ≡ 0 = omega (arith, h, times_append n xs (n ∷ ys), t) in
    let f : without n (n ∷ ys) ≡ without n ys = rw (eq-eqb n n refl) refl in
    filter-append (λ m. not (m == n)) xs (n ∷ ys) ∙ rw (without_none n xs a, f, without_none n ys b) refl

pub unlink_none : (n : ℕ) (ls : List (List ℕ)) → times n ls ≡ 0 → unlink n ls ≡ ls
unlink_none n [] h = refl
unlink_none n (l ∷ ls) h = rw (without_none n l (omega (arith, h)), unlink_none n ls (omega (arith, h))) refl

-- the i-th entry of list k + 1 is n
pub taken_one : (n i : ℕ) (l : List ℕ) → slice_get l i ≡ Some n → (take (suc i) l ≡ take i l ++ n ∷ []) × (drop i l ≡ n ∷ drop (suc i) l)
taken_one n i [] e = cc
taken_one n zero (x ∷ xs) e = let f : x ≡ n = cc in rw f (refl, refl)
taken_one n (suc i) (x ∷ xs) e = let r = taken_one n i xs e in (ap (λ (ys : List ℕ). x ∷ ys) r.0, r.1)

module _ (goes : ℕ → Bool) (n : ℕ) where
  pub stays_one : (i : ℕ) (l : List ℕ) → slice_get l i ≡ Some n → goes n ≡ false
      → (filter goes (take (suc i) l) ≡ filter goes (take i l)) × (filter (λ r. not (goes r)) (take (suc i) l) ++ drop (suc i) l ≡ filter (λ r. not (goes r)) (take i l) ++ drop i l)
  stays_one i l e g =
      let t = taken_one n i l e in (
        rw t.0 (filter-append goes (take i l) (n ∷ []) ∙ rw g (append-nil (filter goes (take i l)))),
        rw (t.0, t.1) (rw (filter-append (λ r. not (goes r)) (take i l) (n ∷ []), g) (append_assoc (filter (λ r. not (goes r)) (take i l)) (n ∷ []) (drop (suc i) l))),
      )

  pub goes_one : (i : ℕ) (l : List ℕ) → slice_get l i ≡ Some n → goes n ≡ true
      → (filter goes (take (suc i) l) ≡ filter goes (take i l) ++ n ∷ []) × (filter (λ r. not (goes r)) (take (suc i) l) ≡ filter (λ r. not (goes r)) (take i l))
  goes_one i l e g =
      let t = taken_one n i l e in (
        rw t.0 (filter-append goes (take i l) (n ∷ []) ∙ rw g refl),
        rw t.0 (filter-append (λ r. not (goes r)) (take i l) (n ∷ []) ∙ rw g (append-nil (filter (λ r. not (goes r)) (take i l)))),
      )

  pub kept : (k i : ℕ) (ls : List (List ℕ)) → slice_get (list_at (suc k) ls) i ≡ Some n → goes n ≡ false → lowering goes k (suc i) ls ≡ lowering goes k i ls
  kept k i [] e g = refl
  kept zero i (m ∷ []) e g = refl
  kept zero i (m ∷ l ∷ ls) e g = let t = stays_one i l e g in rw (t.0, t.1) refl
  kept (suc k) i (m ∷ ls) e g = ap (λ (xs : List (List ℕ)). m ∷ xs) (kept k i ls e g)

  pub there : (k i : ℕ) (ls : List (List ℕ)) → slice_get (list_at (suc k) ls) i ≡ Some n → 1 ≤ times n (lowering goes k i ls)
  there k i [] e = cc
  there zero i (m ∷ []) e = cc
  there zero i (m ∷ l ∷ ls) e =
      let t = taken_one n i l e in
      let keep = filter (λ r. not (goes r)) (take i l) in
      let at : times_in n (keep ++ n ∷ drop (suc i) l) ≡ times_in n keep + (1 + times_in n (drop (suc i) l)) = times_append n keep (n ∷ drop (suc i) l) ∙ (rw (eq-eqb n n refl) refl) in
      rw t.1 (omega (arith, at))
  there (suc k) i (m ∷ ls) e = omega (arith, there k i ls e)

  pub lowered : (k i : ℕ) (ls : List (List ℕ)) → slice_get (list_at (suc k) ls) i ≡ Some n → goes n ≡ true → times n (lowering goes k i ls) ≤ 1 → push_back k n (unlink n (lowering goes k i ls)) ≡ lowering goes k (suc i) ls
  lowered k i [] e g h = refl
  lowered zero i (m ∷ []) e g h = cc
  lowered zero i (m ∷ l ∷ ls) e g h =
      let t = taken_one n i l e in
      let s = goes_one i l e g in
      let keep = filter (λ r. not (goes r)) (take i l) in
      let at : times_in n (keep ++ n ∷ drop (suc i) l) ≡ times_in n keep + (1 + times_in n (drop (suc i) l)) = times_append n keep (n ∷ drop (suc i) l) ∙ (rw (eq-eqb n n refl) refl) in
      let once = rw t.1 at h in
      rw (t.1, s.0, s.1, without_none n (m ++ filter goes (take i l)) (omega (arith, once, at)), without_one n keep (drop (suc i) l) (omega (arith, once, at)), unlink_none n ls (omega (arith, once, at)))
      (ap (λ (x : List ℕ). x ∷ (keep ++ drop (suc i) l) ∷ ls) (append_assoc m (filter goes (take i l)) (n ∷ [])))
  lowered (suc k) i (m ∷ ls) e g h =
      let t = there k i ls e in
      rw (without_none n m (omega (arith, h, t)), lowered k i ls e g (omega (arith, h))) refl

  behind_at : (xs ys : List ℕ) → times_in n xs ≡ 0 → behind n (xs ++ n ∷ ys) ≡ head ys
  behind_at [] ys h = rw (eq-eqb n n refl) refl
  behind_at (x ∷ xs) ys h = elim (cases_eq x n) [
    | inl e ↦ absurd (let t = rw (eq-eqb x n e) at h in omega (arith, t))
    | inr d ↦ let t = rw (ne_eqb x n d) at h in rw (ne_eqb x n d) (behind_at xs ys (omega (arith, t)))
  ]

  is_in_not : (l : List ℕ) → times_in n l ≡ 0 → is_in n l ≡ false
  is_in_not [] h = refl
  is_in_not (x ∷ xs) h = elim (cases_eq x n) [
    | inl e ↦ absurd (let t = rw (eq-eqb x n e) at h in omega (arith, t))
    | inr d ↦ let t = rw (ne_eqb x n d) at h in rw (ne_eqb x n d) (is_in_not xs (omega (arith, t)))
  ]

  is_in_is : (xs ys : List ℕ) → is_in n (xs ++ n ∷ ys) ≡ true
  is_in_is [] ys = rw (eq-eqb n n refl) refl
  is_in_is (x ∷ xs) ys = elim (cases_Bool (x == n)) [
    | inl t ↦ rw t refl
    | inr t ↦ rw t (is_in_is xs ys)
  ]

  head_drop : (i : ℕ) (l : List ℕ) → head (drop i l) ≡ slice_get l i
  head_drop zero [] = refl
  head_drop (suc i) [] = refl
  head_drop zero (x ∷ xs) = refl
  head_drop (suc i) (x ∷ xs) = head_drop i xs

  pub next_is : (k i : ℕ) (ls : List (List ℕ)) → slice_get (list_at (suc k) ls) i ≡ Some n → times n (lowering goes k i ls) ≤ 1 → next n (lowering goes k i ls) ≡ slice_get (list_at (suc k) ls) (suc i)
  next_is k i [] e h = cc
  next_is zero i (m ∷ []) e h = cc
  next_is zero i (m ∷ l ∷ ls) e h =
      let t = taken_one n i l e in
      let keep = filter (λ r. not (goes r)) (take i l) in
      let at : times_in n (keep ++ n ∷ drop (suc i) l) ≡ times_in n keep + (1 + times_in n (drop (suc i) l)) = times_append n keep (n ∷ drop (suc i) l) ∙ (rw (eq-eqb n n refl) refl) in
      let once = rw t.1 at h in
      rw (t.1, is_in_not (m ++ filter goes (take i l)) (omega (arith, once, at)), is_in_is keep (drop (suc i) l), behind_at keep (drop (suc i) l) (omega (arith, once, at))) (head_drop (suc i) l)
  next_is (suc k) i (m ∷ ls) e h =
      let t = there k i ls e in
      rw (is_in_not m (omega (arith, h, t))) (next_is k i ls e (omega (arith, h)))

pub front_is : (goes : ℕ → Bool) (k : ℕ) (ls : List (List ℕ)) → lowering goes k 0 ls ≡ ls
front_is goes k [] = refl
front_is goes zero (m ∷ []) = refl
front_is goes zero (m ∷ l ∷ ls) = rw (append-nil m) refl
front_is goes (suc k) (m ∷ ls) = ap (λ (xs : List (List ℕ)). m ∷ xs) (front_is goes k ls)

pub length-lowering : (goes : ℕ → Bool) (k i : ℕ) (ls : List (List ℕ)) → length (lowering goes k i ls) ≡ length ls
length-lowering goes k i [] = refl
length-lowering goes zero i (m ∷ []) = refl
length-lowering goes zero i (m ∷ l ∷ ls) = refl
length-lowering goes (suc k) i (m ∷ ls) = ap suc (length-lowering goes k i ls)

pub some_at : (l : List ℕ) (i n : ℕ) → slice_get l i ≡ Some n → i < length l
some_at [] i n e = cc
some_at (x ∷ xs) zero n e = omega arith
some_at (x ∷ xs) (suc i) n e = omega (arith, some_at xs i n e)

pub none_at : (l : List ℕ) (i : ℕ) → slice_get l i ≡ None → length l ≤ i
none_at [] i e = omega arith
none_at (x ∷ xs) zero e = cc
none_at (x ∷ xs) (suc i) e = omega (arith, none_at xs i e)

pub begun : (goes : ℕ → Bool) (k : ℕ) (ls : List (List ℕ)) → (lowering goes k 0 ls ≡ ls) × (head (list_at (suc k) ls) ≡ slice_get (list_at (suc k) ls) 0)
begun goes k ls = (front_is goes k ls, head_get (list_at (suc k) ls))
