-- A region that leaves: what becomes of the lists, the keys and the candidates.
use Rattle.std.proofs.Common.{arith, ◌≡◌, ◌<◌, ℕ, zero, suc, List, [], ◌∷◌, ◌++◌, sym, ◌∙◌, ap, refl, length, Option, Some, None}
use Rattle.std.specs.Prelude.{◌==◌, not, slice_set}
use Rattle.std.proofs.lemmas.List.Elements.{filter-append}
use Rattle.std.proofs.lemmas.Bool.{eq-eqb}
use Rattle.std.proofs.lemmas.List.{append-nil}
use Rattle.freq_lists.specs.Lists.{times, times_in, push_back, unlink, without}
use Rattle.freq_lists.proofs.Counts.{times_append}
use Rattle.cache_policy.specs.Policy.{tag_at}
use Rattle.cache_policy.specs.Ageing.{candidates_in}
use Rattle.cache_policy.specs.Kept.{one_if_some}
use Rattle.cache_policy.specs.Laws.{FreeRegionLeaves, CandidatesLeft}
use Rattle.cache_policy.proofs.Lowers.{without_one, unlink_none}
use Rattle.cache_policy.proofs.Tags.{at}
use Rattle.cache_policy.proofs.Good.{front_region, front_not_listed}

none_is : (o : Option ℕ) → one_if_some o ≡ 0 → o ≡ None
none_is None e = refl
none_is (Some t) e = absurd (omega (arith, e))

without_last : (r : ℕ) (l : List ℕ) → times_in r l ≡ 0 → without r (l ++ r ∷ []) ≡ l
without_last r l none =
    let one = rw (eq-eqb r r refl) at (times_append r l (r ∷ [])) in
    without_one r l [] (omega (arith, one, none)) ∙ append-nil l

unpushed : (r : ℕ) (ls : List (List ℕ)) → times r ls ≡ 0 → unlink r (push_back 0 r ls) ≡ ls
unpushed r [] e = refl
unpushed r (l ∷ ls) e = rw (without_last r l (omega (arith, e)), unlink_none r ls (omega (arith, e))) refl

set_twice : (ts : List (Option ℕ)) (r : ℕ) (t : Option ℕ) → at ts r ≡ None → r < length ts → slice_set (slice_set ts r t) r None ≡ ts
set_twice [] r t e h = refl
set_twice (x ∷ ts) zero t e h = ap (λ (o : Option ℕ). o ∷ ts) (sym e)
set_twice (x ∷ ts) (suc r) t e h = ap (λ (l : List (Option ℕ)). x ∷ l) (set_twice ts r t e (omega arith))

pub free_region : FreeRegionLeaves
free_region p r tag now good e =
    let unlisted = front_not_listed p good r tag e in
    let untagged = none_is (tag_at p r) (omega (arith, good.mapped r, unlisted)) in
    rw (unpushed r p.lists unlisted, set_twice p.tags r (Some tag) untagged (front_region p good r tag e)) refl

left_in : (r : ℕ) (ls : List (List ℕ)) → candidates_in (unlink r ls) ≡ without r (candidates_in ls)
left_in r [] = refl
left_in r (l ∷ ls) = ap (λ (xs : List ℕ). without r l ++ xs) (left_in r ls) ∙ sym (filter-append (λ m. not (m == r)) l (candidates_in ls))

pub left : CandidatesLeft
left p r = left_in r p.lists
