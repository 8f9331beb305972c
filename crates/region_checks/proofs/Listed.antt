-- Whether a node is in a list, by the answer of `list_of`.
use Rattle.std.proofs.Common.{arith, ◌≡◌, ◌<◌, ℕ, List, inl, inr, Some, None}
use Rattle.std.proofs.lemmas.Bool.{cases_eq}
use Rattle.freq_lists.specs.Lists.{list_of, times}
use Rattle.freq_lists.proofs.Counts.{list_of_none}
use Rattle.cache_policy.proofs.Mapped.{not_listed}

pub free : (n : ℕ) (ls : List (List ℕ)) → list_of n ls ≡ None → times n ls ≡ 0
free n ls e = not_listed n ls 0 e

pub listed : (n k : ℕ) (ls : List (List ℕ)) → list_of n ls ≡ Some k → 0 < times n ls
listed n k ls e = elim (cases_eq (times n ls) 0) [
  | inl z ↦ let none = list_of_none n 0 ls z in absurd (cc)
  | inr d ↦ omega (arith, d)
]
