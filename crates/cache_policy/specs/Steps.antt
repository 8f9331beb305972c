-- What the loops of a decay have done so far.
use Rattle.std.specs.Prelude.{◌-◌, ◌*◌, ℕ, zero, suc, Bool, not, nat_le, List, [], ◌∷◌, ◌++◌, take, drop, filter, slice_index}
use Rattle.cache_policy.specs.Ageing.{lower, count_lowered}

abbrev pub goes_down : List ℕ → ℕ → ℕ → ℕ → Bool
goes_down last_accesses min_delta now r = nat_le (2 * min_delta) (now - slice_index last_accesses r)

-- the first i entries of list k + 1 were looked at, and those that go down stand in list k
abbrev pub lowering : (ℕ → Bool) → ℕ → ℕ → List (List ℕ) → List (List ℕ)
lowering goes k i [] = []
lowering goes zero i (m ∷ []) = m ∷ []
lowering goes zero i (m ∷ l ∷ ls) = (m ++ filter goes (take i l)) ∷ (filter (λ r. not (goes r)) (take i l) ++ drop i l) ∷ ls
lowering goes (suc k) i (m ∷ ls) = m ∷ lowering goes k i ls

-- the lists from number k on are lowered, where those before are done
abbrev pub lower_from : (ℕ → Bool) → ℕ → List (List ℕ) → List (List ℕ)
lower_from goes k [] = []
lower_from goes zero (l ∷ ls) = lower goes (l ∷ ls)
lower_from goes (suc k) (l ∷ ls) = l ∷ lower_from goes k ls

abbrev pub count_from : (ℕ → Bool) → ℕ → List (List ℕ) → ℕ
count_from goes k ls = count_lowered goes (drop (suc k) ls)
