-- Whether a key is found, by the tags of the regions.
use Rattle.std.proofs.Common.{◌≡◌, ◌≢◌, ℕ, true, false, Some, None, sym, ◌∙◌, refl, inl, inr}
use Rattle.std.specs.Prelude.{◌==◌, if◌then◌else◌}
use Rattle.std.proofs.lemmas.Bool.{cases_Bool, eq-eqb}
use Rattle.cache_policy.specs.Policy.{PolicyView, find, tag_at}
use Rattle.cache_policy.proofs.Tags.{find_some, not_found, none_only}

pub find_none : (tag : ℕ) (p : PolicyView) → ((s : ℕ) → tag_at p s ≢ Some tag) → find tag p ≡ None
find_none tag p h = none_only (λ o. o ≡ find tag p) (λ x e. h x (find_some tag p.tags (Some x) e)) (find tag p) refl

pub none_at : (tag : ℕ) (p : PolicyView) (s : ℕ) → find tag p ≡ None → tag_at p s ≢ Some tag
none_at tag p s e at = not_found tag p.tags 0 s e at

-- a key that no region had, or that only the region r had, is found no more once r has none
pub not_again : (tag : ℕ) (p q : PolicyView) (r : ℕ) → ((s : ℕ) → s ≢ r → tag_at p s ≢ Some tag) → ((s : ℕ) → tag_at q s ≡ (if s == r then None else tag_at p s)) → find tag q ≡ None
not_again tag p q r only gone = find_none tag q (λ s at. elim (cases_Bool (s == r)) [
  | inl t ↦ let h = gone s in let k = rw t at h in absurd (none_some (sym k ∙ at))
  | inr f ↦ let h = gone s in let k = rw f at h in only s (differ s r f) (sym k ∙ at)
])
  where
    none_some : None ≡ Some tag → ⊥
    none_some e = cc

    differ : (s r : ℕ) → (s == r) ≡ false → s ≢ r
    differ s r f e = let t = eq-eqb s r e in let z : true ≡ false = sym t ∙ f in cc
