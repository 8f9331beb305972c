-- Walks over the leaving regions and over the candidates.
use Rattle.std.proofs.Common.{arith, ◌≡◌, ◌<◌, ◌≤◌, ◌+◌, ℕ, zero, suc, true, false, List, [], ◌∷◌, ◌++◌, sym, ◌∙◌, ap, inl, inr, refl, length, drop, get_or, Option, Some, None, drop-cons, add-one}
use Rattle.std.specs.Prelude.{◌==◌, IsSome}
use Rattle.std.proofs.lemmas.Bool.{cases_Bool, cases_lt, eq-eqb, ne_eqb, eqb-true}
use Rattle.std.proofs.lemmas.Bool.Decides.{nat_tests}
use Rattle.std.proofs.Math.Seq.{drop-nil}
use Rattle.freq_lists.specs.Lists.{without, head, times_in}
use Rattle.cache_policy.specs.Policy.{PolicyView, tag_at, settle, settle_all}
use Rattle.cache_policy.specs.Ageing.{candidates, next_after}
use Rattle.cache_policy.specs.Kept.{IsGood, one_if_some}
use Rattle.cache_door.specs.declared.hold.Hold.{Hold}
use Rattle.cache_door.specs.Machine.{is_held_by, unheld_by, settled_by, evicted, evicted_by, room_by}
use Rattle.cache_door.specs.Choices.{left_from}
use Rattle.cache_door.proofs.Policies.{settled_all}
use Rattle.freq_lists.proofs.Beside.{without_none}
use Rattle.cache_policy.proofs.Places.{candidate_times}
use Rattle.cache_policy.proofs.Tags.{one_is as is_one}
use Rattle.cache_policy.proofs.Candidates.{next_times}

-- ---- the unheld regions from place i on

pub pass_held : (holds : List (Option Hold)) (i r : ℕ) (xs : List ℕ) → i < length xs → r ≡ get_or xs i 0 → is_held_by holds r ≡ true → unheld_by holds (drop i xs) ≡ unheld_by holds (drop (i + 1) xs)
pass_held holds i r xs h e t = rw (drop-cons xs i 0, ← e, t, add-one) refl

pub meet_unheld : (holds : List (Option Hold)) (i r : ℕ) (xs : List ℕ) → i < length xs → r ≡ get_or xs i 0 → is_held_by holds r ≡ false → unheld_by holds (drop i xs) ≡ r ∷ unheld_by holds (drop (i + 1) xs)
meet_unheld holds i r xs h e f = rw (drop-cons xs i 0, ← e, f, add-one) refl

pub drop_end : (i : ℕ) (xs : List ℕ) → length xs ≤ i → drop i xs ≡ []
drop_end i [] h = drop-nil i
drop_end zero (x ∷ xs) h = absurd (omega (arith, h))
drop_end (suc i) (x ∷ xs) h = drop_end i xs (omega (arith, h))

-- ---- settling while walking

pub at_times : (r i : ℕ) (xs : List ℕ) → i < length xs → get_or xs i 0 ≡ r → 0 < times_in r xs
at_times r i [] h e = absurd (omega (arith, h))
at_times r zero (x ∷ xs) h e = rw (eq-eqb x r e) (omega arith)
at_times r (suc i) (x ∷ xs) h e = let k = at_times r i xs (omega (arith, h)) e in omega (arith, k)

pub taken_out : (r i : ℕ) (xs : List ℕ) → i < length xs → get_or xs i 0 ≡ r → times_in r xs ≤ 1 → (drop i (without r xs) ≡ drop (suc i) xs) × (length (without r xs) + 1 ≡ length xs)
taken_out r i [] h e t = absurd (omega (arith, h))
taken_out r zero (x ∷ xs) h e t =
    let s = eq-eqb x r e in
    let k = without_none r xs (let u = rw s at t in omega (arith, u)) in
    (rw (s, k) refl, rw (s, k) (omega arith))
taken_out r (suc i) (x ∷ xs) h e t = elim (cases_Bool (x == r)) [
  | inl s ↦ absurd (let u = rw s at t in omega (arith, u, at_times r i xs (omega (arith, h)) e))
  | inr f ↦
      let k = taken_out r i xs (omega (arith, h)) e (let u = rw f at t in omega (arith, u)) in
      (rw f k.0, rw f (omega (arith, k.1)))
]

pub once_leaving : (p : PolicyView) (r : ℕ) → IsGood p → times_in r p.leaving ≤ 1
once_leaving p r kept = elim (cases_lt r (length p.tags)) [
  | inl l ↦ omega (arith, kept.once r l)
  | inr g ↦ omega (arith, kept.none_else r g)
]

-- ---- from one candidate to the next

at_most_one : (o : Option ℕ) → one_if_some o ≤ 1
at_most_one None = omega arith
at_most_one (Some t) = omega arith

-- each candidate stands there once
pub once_candidate : (p : PolicyView) → IsGood p → (r : ℕ) → times_in r (candidates p) ≤ 1
once_candidate p kept r = omega (arith, candidate_times r p.lists, kept.mapped r, at_most_one (tag_at p r))

-- a mapped region is one
pub mapped_candidate : (p : PolicyView) → IsGood p → (r : ℕ) → IsSome (tag_at p r) → 0 < times_in r (candidates p)
mapped_candidate p kept r h = omega (arith, candidate_times r p.lists, kept.mapped r, is_one (tag_at p r) h)

pub left_some : (r : ℕ) (xs : List ℕ) → 0 < times_in r xs → left_from (Some r) xs ≡ r ∷ drop 1 (left_from (Some r) xs)
left_some r [] h = absurd (omega (arith, h))
left_some r (x ∷ xs) h = elim (cases_Bool (x == r)) [
  | inl t ↦ rw t (ap (λ (y : ℕ). y ∷ xs) (eqb-true x r t))
  | inr f ↦ rw f (left_some r xs (let k = rw f at h in omega (arith, k)))
]

pub left_first : (xs : List ℕ) → left_from (head xs) xs ≡ xs
left_first [] = refl
left_first (x ∷ xs) = rw (eq-eqb x x refl) refl

-- what is left from an entry of the rest is left from it in the whole
left_behind : (x : ℕ) (o : Option ℕ) (xs : List ℕ) → ((n : ℕ) → o ≡ Some n → ¬ (x ≡ n)) → left_from o (x ∷ xs) ≡ left_from o xs
left_behind x None xs h = refl
left_behind x (Some n) xs h = rw (ne_eqb x n (h n refl)) refl

pub left_next : (r : ℕ) (xs : List ℕ) → ((n : ℕ) → times_in n xs ≤ 1) → left_from (next_after r xs) xs ≡ drop 1 (left_from (Some r) xs)
left_next r [] h = refl
left_next r (x ∷ xs) h = elim (cases_Bool (x == r)) [
  | inl t ↦ rw t (left_behind x (head xs) xs (first x xs h) ∙ left_first xs)
  | inr f ↦ rw f (left_behind x (next_after r xs) xs (later x r xs h) ∙ left_next r xs (λ n. let k = h n in omega (arith, k)))
]
  where
    first : (x : ℕ) (xs : List ℕ) → ((n : ℕ) → times_in n (x ∷ xs) ≤ 1) → (n : ℕ) → head xs ≡ Some n → ¬ (x ≡ n)
    first x [] h n e i = absurd (cc)
    first x (y ∷ ys) h n e i = let j : y ≡ n = (cc) in let k = rw (eq-eqb x n i, eq-eqb y n j) at (h n) in omega (arith, k)

    later : (x r : ℕ) (xs : List ℕ) → ((n : ℕ) → times_in n (x ∷ xs) ≤ 1) → (n : ℕ) → next_after r xs ≡ Some n → ¬ (x ≡ n)
    later x r xs h n e i = let k = rw (eq-eqb x n i) at (h n) in omega (arith, k, next_times r n xs e)

pub walk_step : (p : PolicyView) (r : ℕ) → IsGood p → IsSome (tag_at p r) → left_from (Some r) (candidates p) ≡ r ∷ left_from (next_after r (candidates p)) (candidates p)
walk_step p r kept h = left_some r (candidates p) (mapped_candidate p kept r h) ∙ ap (λ (l : List ℕ). r ∷ l) (sym (left_next r (candidates p) (once_candidate p kept)))

pub settle_step : (holds : List (Option Hold)) (i r : ℕ) (p : PolicyView) → IsGood p → i < length p.leaving → r ≡ get_or p.leaving i 0 → is_held_by holds r ≡ false
    → settle_all (unheld_by holds (drop i (settle r p).leaving)) (settle r p) ≡ settle_all (unheld_by holds (drop i p.leaving)) p
settle_step holds i r p kept h e f =
    let t = taken_out r i p.leaving h (sym e) (once_leaving p r kept) in
    rw (meet_unheld holds i r p.leaving h e f, t.0, add-one) refl

module _ (holds : List (Option Hold)) (p : PolicyView) (kept : IsGood p) (o : Option ℕ) (r : ℕ) (here : o ≡ Some r) (mapped : IsSome (tag_at p r)) where
  step : left_from o (candidates p) ≡ r ∷ left_from (next_after r (candidates p)) (candidates p)
  step = ap (λ (x : Option ℕ). left_from x (candidates p)) here ∙ walk_step p r kept mapped

  pub candidate_held : is_held_by holds r ≡ true → head (unheld_by holds (left_from o (candidates p))) ≡ head (unheld_by holds (left_from (next_after r (candidates p)) (candidates p)))
  candidate_held t = rw (step, t) refl

  pub candidate_unheld : is_held_by holds r ≡ false → head (unheld_by holds (left_from o (candidates p))) ≡ Some r
  candidate_unheld f = rw (step, f) refl

  pub candidate_left : length (left_from (next_after r (candidates p)) (candidates p)) < length (left_from o (candidates p))
  candidate_left = rw step (omega arith)

-- ---- the region that is chosen

module _ (holds : List (Option Hold)) (p : PolicyView) where
  free_after : (settled_by holds p).free ≡ p.free ++ unheld_by holds p.leaving
  free_after = (settled_all (unheld_by holds p.leaving) p).free

  some_free : (q : PolicyView) (r : ℕ) → head q.free ≡ Some r → head (evicted_by holds q).free ≡ Some r
  some_free q r e = let z : (0 == length q.free) ≡ false = not_empty q.free e in rw z e
    where
      not_empty : (xs : List ℕ) → head xs ≡ Some r → (0 == length xs) ≡ false
      not_empty [] e = absurd (cc)
      not_empty (x ∷ xs) e = grind (arith, nat_tests)

  head_front : (r : ℕ) (xs ys : List ℕ) → head xs ≡ Some r → head (xs ++ ys) ≡ Some r
  head_front r [] ys e = absurd (cc)
  head_front r (x ∷ xs) ys e = e

  pub choose_free : (r : ℕ) → head p.free ≡ Some r → head (room_by holds p).free ≡ Some r
  choose_free r e = some_free (settled_by holds p) r (rw free_after (head_front r p.free (unheld_by holds p.leaving) e))

  none_free : (xs : List ℕ) → head xs ≡ None → xs ≡ []
  none_free [] e = refl
  none_free (x ∷ xs) e = absurd (cc)

  pub choose_leaving : (r : ℕ) → head p.free ≡ None → head (unheld_by holds p.leaving) ≡ Some r → head (room_by holds p).free ≡ Some r
  choose_leaving r n e = some_free (settled_by holds p) r (rw (free_after, none_free p.free n) e)

  evicts : (o : Option ℕ) (q : PolicyView) → q.free ≡ [] → head (evicted o q).free ≡ o
  evicts None q e = rw e refl
  evicts (Some r) q e = rw e refl

  pub choose_candidate : head p.free ≡ None → head (unheld_by holds p.leaving) ≡ None → head (room_by holds p).free ≡ head (unheld_by holds (candidates p))
  choose_candidate n m =
      let f = none_free p.free n in
      let l = none_free (unheld_by holds p.leaving) m in
      let z : (0 == length p.free) ≡ true = rw f refl in
      rw (l, z) (evicts (head (unheld_by holds (candidates p))) p f)
