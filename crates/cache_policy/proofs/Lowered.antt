-- All lists are lowered, from the lowest up.
use Rattle.std.proofs.Common.{arith, ◌≡◌, ◌<◌, ◌≤◌, ◌+◌, ℕ, zero, suc, Bool, List, [], ◌∷◌, ap, refl, length, take, drop, min, append-nil}
use Rattle.std.specs.Prelude.{not, filter}
use Rattle.freq_lists.specs.Lists.{list_at}
use Rattle.cache_policy.specs.Ageing.{lower}
use Rattle.cache_policy.specs.Steps.{lowering, lower_from, count_from}

pub take_whole : (i : ℕ) (l : List ℕ) → length l ≤ i → take i l ≡ l
take_whole zero [] h = refl
take_whole (suc i) [] h = refl
take_whole zero (x ∷ l) h = absurd (omega arith)
take_whole (suc i) (x ∷ l) h = ap (λ (xs : List ℕ). x ∷ xs) (take_whole i l (omega arith))

drop_whole : (l : List ℕ) → drop (length l) l ≡ []
drop_whole [] = refl
drop_whole (x ∷ l) = drop_whole l

module _ (goes : ℕ → Bool) where
  pub step : (k : ℕ) (ls : List (List ℕ)) → suc k < length ls → lower_from goes (suc k) (lowering goes k (length (list_at (suc k) ls)) ls) ≡ lower_from goes k ls
  step k [] h = absurd (omega arith)
  step zero (m ∷ []) h = absurd (omega arith)
  step zero (m ∷ l ∷ ls) h =
      let t = take_whole (length l) l (omega arith) in
      rw (t, drop_whole l, append-nil (filter (λ r. not (goes r)) l)) refl
  step (suc k) (m ∷ ls) h = ap (λ (xs : List (List ℕ)). m ∷ xs) (step k ls (omega arith))

  pub done : (k : ℕ) (ls : List (List ℕ)) → length ls ≤ suc k → lower_from goes k ls ≡ ls
  done k [] h = refl
  done zero (l ∷ []) h = ap (λ (xs : List ℕ). xs ∷ []) (append-nil l)
  done zero (l ∷ m ∷ ls) h = absurd (omega arith)
  done (suc k) (l ∷ ls) h = ap (λ (xs : List (List ℕ)). l ∷ xs) (done k ls (omega arith))

  pub begin : (ls : List (List ℕ)) → lower_from goes 0 ls ≡ lower goes ls
  begin [] = refl
  begin (l ∷ ls) = refl

  pub count_step : (k i : ℕ) (ls : List (List ℕ)) → suc k < length ls → count_from goes k ls ≡ length (filter goes (list_at (suc k) ls)) + count_from goes (suc k) (lowering goes k i ls)
  count_step k i [] h = absurd (omega arith)
  count_step zero i (m ∷ []) h = absurd (omega arith)
  count_step zero i (m ∷ l ∷ ls) h = refl
  count_step (suc k) i (m ∷ ls) h = count_step k i ls (omega arith)

  pub count_done : (k : ℕ) (ls : List (List ℕ)) → length ls ≤ suc k → count_from goes k ls ≡ 0
  count_done k [] h = refl
  count_done zero (l ∷ []) h = refl
  count_done zero (l ∷ m ∷ ls) h = absurd (omega arith)
  count_done (suc k) (l ∷ ls) h = count_done k ls (omega arith)

pub rise_more : (c a b : ℕ) → min (min (c + a) 18446744073709551615 + b) 18446744073709551615 ≡ min (c + (a + b)) 18446744073709551615
rise_more c a b = omega arith

pub rise_none : (c : ℕ) → c < 18446744073709551616 → min (c + 0) 18446744073709551615 ≡ c
rise_none c h = omega arith
