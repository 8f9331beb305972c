-- How often a region stands in the lists after a call.
use Rattle.std.proofs.Common.{arith, ◌≡◌, ◌<◌, ◌≤◌, ◌+◌, ℕ, zero, suc, Bool, List, [], ◌∷◌, ◌++◌, ◌∙◌, ap, inl, inr, refl, length, drop, Some}
use Rattle.std.specs.Prelude.{cond, not, ◌==◌, filter}
use Rattle.std.specs.List.{range_with_len}
use Rattle.std.proofs.lemmas.Bool.{cases_eq, cases_Bool, eq-eqb, ne_eqb}
use Rattle.freq_lists.specs.Lists.{without, unlink, push_back, times, times_in, head}
use Rattle.freq_lists.proofs.Counts.{times_append, times_push, length_unlink, times_without, times_unlink, without_other, unlink_other_times}
use Rattle.cache_policy.specs.Ageing.{lower, lower_rest, lowered_of, candidates_in}

-- a region that stood once is counted once more where it is put again
pub moved : (r j : ℕ) (ls : List (List ℕ)) → times r ls ≡ 1 → cond (r == j) 1 0 + times j (unlink r ls) ≡ times j ls
moved r j ls one = elim (cases_eq r j) [
  | inl e ↦ let o = rw e at one in rw (eq-eqb r j e, e) (omega (arith, times_unlink j ls, o))
  | inr d ↦ rw (ne_eqb r j d) (omega (arith, unlink_other_times j r ls d))
]

pub moved_in : (r j : ℕ) (l : List ℕ) → times_in r l ≡ 1 → cond (r == j) 1 0 + times_in j (without r l) ≡ times_in j l
moved_in r j l one = elim (cases_eq r j) [
  | inl e ↦ let o = rw e at one in rw (eq-eqb r j e, e) (omega (arith, times_without j l, o))
  | inr d ↦ rw (ne_eqb r j d) (omega (arith, without_other j r l d))
]

pub pushed_again : (r k j : ℕ) (ls : List (List ℕ)) → times r ls ≡ 1 → k < length ls → times j (push_back k r (unlink r ls)) ≡ times j ls
pushed_again r k j ls one h = times_push j k r (unlink r ls) (omega (arith, h, length_unlink r ls)) ∙ moved r j ls one

pub head_free : (r j : ℕ) (l : List ℕ) → head l ≡ Some r → times_in j l ≡ cond (r == j) 1 0 + times_in j (drop 1 l)
head_free r j [] h = absurd (cc)
head_free r j (x ∷ l) h = let e : x ≡ r = cc in rw e refl

filter_times : (goes : ℕ → Bool) (j : ℕ) (l : List ℕ) → times_in j (filter goes l) + times_in j (filter (λ r. not (goes r)) l) ≡ times_in j l
filter_times goes j [] = refl
filter_times goes j (x ∷ l) = elim (cases_Bool (goes x)) [
  | inl t ↦ rw t (omega (arith, filter_times goes j l))
  | inr t ↦ rw t (omega (arith, filter_times goes j l))
]

times_rest : (goes : ℕ → Bool) (j : ℕ) (ls : List (List ℕ)) → times_in j (lowered_of goes ls) + times j (lower_rest goes ls) ≡ times j ls
times_rest goes j [] = refl
times_rest goes j (l ∷ ls) =
    omega (arith, filter_times goes j l, times_append j (filter (λ r. not (goes r)) l) (lowered_of goes ls), times_rest goes j ls)

pub times_lower : (goes : ℕ → Bool) (j : ℕ) (ls : List (List ℕ)) → times j (lower goes ls) ≡ times j ls
times_lower goes j [] = refl
times_lower goes j (l ∷ ls) = omega (arith, times_append j l (lowered_of goes ls), times_rest goes j ls)

pub length_rest : (goes : ℕ → Bool) (ls : List (List ℕ)) → length (lower_rest goes ls) ≡ length ls
length_rest goes [] = refl
length_rest goes (l ∷ ls) = ap suc (length_rest goes ls)

pub length_lower : (goes : ℕ → Bool) (ls : List (List ℕ)) → length (lower goes ls) ≡ length ls
length_lower goes [] = refl
length_lower goes (l ∷ ls) = ap suc (length_rest goes ls)

pub candidate_times : (r : ℕ) (ls : List (List ℕ)) → times_in r (candidates_in ls) ≡ times r ls
candidate_times r [] = refl
candidate_times r (l ∷ ls) = omega (arith, times_append r l (candidates_in ls), candidate_times r ls)

range_below : (j a n : ℕ) → j < a → times_in j (range_with_len a n) ≡ 0
range_below j a zero h = refl
range_below j a (suc n) h = rw (ne_eqb a j (λ e. absurd (omega (arith, e)))) (omega (arith, range_below j (a + 1) n (omega arith)))

range_within : (j a n : ℕ) → a ≤ j → j < a + n → times_in j (range_with_len a n) ≡ 1
range_within j a zero h g = absurd (omega arith)
range_within j a (suc n) h g = elim (cases_eq a j) [
  | inl e ↦ rw (eq-eqb a j e) (omega (arith, range_below j (a + 1) n (omega (arith, e))))
  | inr d ↦ rw (ne_eqb a j d) (omega (arith, range_within j (a + 1) n (omega (arith, d)) (omega arith)))
]

range_past : (j a n : ℕ) → a + n ≤ j → times_in j (range_with_len a n) ≡ 0
range_past j a zero h = refl
range_past j a (suc n) h = rw (ne_eqb a j (λ e. absurd (omega (arith, e)))) (omega (arith, range_past j (a + 1) n (omega arith)))

pub all_free : (j n : ℕ) → j < n → times_in j (range_with_len 0 n) ≡ 1
all_free j n h = range_within j 0 n (omega arith) (omega arith)

pub none_past : (j n : ℕ) → n ≤ j → times_in j (range_with_len 0 n) ≡ 0
none_past j n h = range_past j 0 n (omega arith)

range_more : (a n : ℕ) → range_with_len a n ++ (a + n) ∷ [] ≡ range_with_len a (suc n)
range_more a zero = let e : a + 0 ≡ a = omega arith in ap (λ (k : ℕ). k ∷ []) e
range_more a (suc n) =
    let e : a + suc n ≡ a + 1 + n = omega arith in
    ap (λ (k : ℕ). a ∷ (range_with_len (a + 1) n ++ k ∷ [])) e ∙ ap (λ (l : List ℕ). a ∷ l) (range_more (a + 1) n)

pub range_push : (n : ℕ) → range_with_len 0 n ++ n ∷ [] ≡ range_with_len 0 (n + 1)
range_push n =
    let z : n ≡ 0 + n = omega arith in
    let s : suc n ≡ n + 1 = omega arith in
    ap (λ (k : ℕ). range_with_len 0 n ++ k ∷ []) z ∙ range_more 0 n ∙ ap (λ (k : ℕ). range_with_len 0 k) s
