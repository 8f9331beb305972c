-- What the calls do to how often a node stands in the lists, and where a node is found.
use Rattle.std.proofs.Common.{arith, ◌≡◌, ◌<◌, ◌≤◌, ◌+◌, ℕ, zero, suc, true, false, List, [], ◌∷◌, ◌++◌, sym, ◌∙◌, ap, inl, inr, refl, length, Some, None, replicate}
use Rattle.std.specs.Prelude.{cond, not, ◌==◌}
use Rattle.std.specs.List.{position_from}
use Rattle.std.proofs.lemmas.Bool.{cases_eq, cases_Bool, eq-eqb, ne_eqb}
use Rattle.std.proofs.lemmas.List.Elements.{filter-append}
use Rattle.std.proofs.lemmas.List.{append-nil}
use Rattle.freq_lists.specs.Lists.{without, unlink, push_back, times, times_in, next, behind, is_in, list_at}

pub times_append : (n : ℕ) (xs ys : List ℕ) → times_in n (xs ++ ys) ≡ times_in n xs + times_in n ys
times_append n [] ys = omega arith
times_append n (x ∷ xs) ys = omega (arith, times_append n xs ys)

pub times_push : (m k n : ℕ) (ls : List (List ℕ)) → k < length ls → times m (push_back k n ls) ≡ cond (n == m) 1 0 + times m ls
times_push m k n [] h = absurd (omega arith)
times_push m zero n (l ∷ ls) h = omega (arith, times_append m l (n ∷ []))
times_push m (suc k) n (l ∷ ls) h = omega (arith, times_push m k n ls (omega arith))

pub times_empty : (m c : ℕ) → times m (replicate c []) ≡ 0
times_empty m zero = refl
times_empty m (suc c) = omega (arith, times_empty m c)

pub length_push : (k n : ℕ) (ls : List (List ℕ)) → length (push_back k n ls) ≡ length ls
length_push k n [] = refl
length_push zero n (l ∷ ls) = refl
length_push (suc k) n (l ∷ ls) = ap suc (length_push k n ls)

pub length_unlink : (n : ℕ) (ls : List (List ℕ)) → length (unlink n ls) ≡ length ls
length_unlink n [] = refl
length_unlink n (l ∷ ls) = ap suc (length_unlink n ls)

pub unlink_empty : (n c : ℕ) → unlink n (replicate c []) ≡ replicate c []
unlink_empty n zero = refl
unlink_empty n (suc c) = ap (λ (ls : List (List ℕ)). [] ∷ ls) (unlink_empty n c)

pub unlink_same : (n k m : ℕ) (ls : List (List ℕ)) → (m == n) ≡ true → unlink n (push_back k m ls) ≡ unlink n ls
unlink_same n k m [] e = refl
unlink_same n zero m (l ∷ ls) e = rw (filter-append (λ j. not (j == n)) l (m ∷ []), e, append-nil (without n l)) refl
unlink_same n (suc k) m (l ∷ ls) e = ap (λ (xs : List (List ℕ)). without n l ∷ xs) (unlink_same n k m ls e)

pub unlink_other : (n k m : ℕ) (ls : List (List ℕ)) → (m == n) ≡ false → unlink n (push_back k m ls) ≡ push_back k m (unlink n ls)
unlink_other n k m [] e = refl
unlink_other n zero m (l ∷ ls) e = rw (filter-append (λ j. not (j == n)) l (m ∷ []), e) refl
unlink_other n (suc k) m (l ∷ ls) e = ap (λ (xs : List (List ℕ)). without n l ∷ xs) (unlink_other n k m ls e)

pub at_same : (k m : ℕ) (ls : List (List ℕ)) → k < length ls → list_at k (push_back k m ls) ≡ list_at k ls ++ m ∷ []
at_same k m [] h = absurd (omega arith)
at_same zero m (l ∷ ls) h = refl
at_same (suc k) m (l ∷ ls) h = at_same k m ls (omega arith)

pub at_other : (k j m : ℕ) (ls : List (List ℕ)) → ¬ (j ≡ k) → list_at k (push_back j m ls) ≡ list_at k ls
at_other k j m [] d = refl
at_other zero zero m (l ∷ ls) d = absurd (d refl)
at_other zero (suc j) m (l ∷ ls) d = refl
at_other (suc k) zero m (l ∷ ls) d = refl
at_other (suc k) (suc j) m (l ∷ ls) d = at_other k j m ls (λ e. d (ap suc e))

pub at_empty : (k c : ℕ) → list_at k (replicate c []) ≡ []
at_empty k zero = refl
at_empty zero (suc c) = refl
at_empty (suc k) (suc c) = at_empty k c

pub is_in_not : (n : ℕ) (l : List ℕ) → times_in n l ≡ 0 → is_in n l ≡ false
is_in_not n [] h = refl
is_in_not n (x ∷ xs) h = elim (cases_Bool (x == n)) [
  | inl t ↦ absurd (let s = rw t at h in omega (arith, s))
  | inr t ↦ let s = rw t at h in rw t (is_in_not n xs (omega (arith, s)))
]

pub is_in_times : (n : ℕ) (l : List ℕ) → is_in n l ≡ true → 0 < times_in n l
is_in_times n [] h = cc
is_in_times n (x ∷ xs) h = elim (cases_Bool (x == n)) [
  | inl t ↦ rw t (omega arith)
  | inr t ↦ let s = rw t at h in rw t (omega (arith, is_in_times n xs s))
]

pub list_of_none : (n i : ℕ) (ls : List (List ℕ)) → times n ls ≡ 0 → position_from (is_in n) i ls ≡ None
list_of_none n i [] h = refl
list_of_none n i (l ∷ ls) h = rw (is_in_not n l (omega (arith, h)), list_of_none n (i + 1) ls (omega (arith, h))) refl

pub in_times : (n k : ℕ) (ls : List (List ℕ)) → is_in n (list_at k ls) ≡ true → 0 < times n ls
in_times n k [] h = cc
in_times n zero (l ∷ ls) h = omega (arith, is_in_times n l h)
in_times n (suc k) (l ∷ ls) h = omega (arith, in_times n k ls h)

pub list_of_some : (n k i : ℕ) (ls : List (List ℕ)) → times n ls ≤ 1 → is_in n (list_at k ls) ≡ true → position_from (is_in n) i ls ≡ Some (i + k)
list_of_some n k i [] h t = cc
list_of_some n zero i (l ∷ ls) h t = let e : i + 0 ≡ i = omega arith in rw (t, e) refl
list_of_some n (suc k) i (l ∷ ls) h t =
    let e : i + suc k ≡ i + 1 + k = omega arith in
    rw (is_in_not n l (omega (arith, h, in_times n k ls t)), list_of_some n k (i + 1) ls (omega (arith, h)) t, e) refl

pub next_is : (n k : ℕ) (ls : List (List ℕ)) → times n ls ≤ 1 → is_in n (list_at k ls) ≡ true → next n ls ≡ behind n (list_at k ls)
next_is n k [] h t = cc
next_is n zero (l ∷ ls) h t = rw t refl
next_is n (suc k) (l ∷ ls) h t = rw (is_in_not n l (omega (arith, h, in_times n k ls t)), next_is n k ls (omega (arith, h)) t) refl

-- ---- what a removal leaves

pub times_without : (n : ℕ) (l : List ℕ) → times_in n (without n l) ≡ 0
times_without n [] = refl
times_without n (x ∷ xs) = elim (cases_Bool (x == n)) [
  | inl t ↦ rw t (times_without n xs)
  | inr t ↦ rw (t, t, times_without n xs) refl
]

pub times_unlink : (n : ℕ) (ls : List (List ℕ)) → times n (unlink n ls) ≡ 0
times_unlink n [] = refl
times_unlink n (l ∷ ls) = rw (times_without n l, times_unlink n ls) refl

pub without_other : (m n : ℕ) (l : List ℕ) → ¬ (n ≡ m) → times_in m (without n l) ≡ times_in m l
without_other m n [] d = refl
without_other m n (x ∷ l) d = elim (cases_eq x n) [
  | inl e ↦ rw (eq-eqb x n e, ne_eqb x m (λ f. d (sym e ∙ f))) (omega (arith, without_other m n l d))
  | inr e ↦ rw (ne_eqb x n e) (omega (arith, without_other m n l d))
]

pub unlink_other_times : (m n : ℕ) (ls : List (List ℕ)) → ¬ (n ≡ m) → times m (unlink n ls) ≡ times m ls
unlink_other_times m n [] d = refl
unlink_other_times m n (l ∷ ls) d = omega (arith, without_other m n l d, unlink_other_times m n ls d)
