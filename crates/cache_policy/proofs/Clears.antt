-- A clear, region by region.
use Rattle.std.proofs.Common.{arith, ◌≡◌, ◌<◌, ◌≤◌, ◌+◌, ℕ, zero, suc, Bool, true, false, List, [], ◌∷◌, ◌++◌, sym, ◌∙◌, inl, inr, refl, length, drop, Option, Some, None, add-one, append_assoc, append-nil}
use Rattle.std.specs.Prelude.{slice_set, IsSome, if◌then◌else◌}
use Rattle.std.proofs.lemmas.Bool.{cases_eq, cases_Bool, eq-eqb, ne_eqb}
use Rattle.freq_lists.specs.Lists.{is_in}
use Rattle.cache_policy.specs.Policy.{PolicyView, tag_at, is_of, regions_from, leave, leave_all}
use Rattle.cache_policy.proofs.Tags.{at, at_gone, at_other}

drop_set : (ts : List (Option ℕ)) (i : ℕ) (t : Option ℕ) → drop (suc i) (slice_set ts i t) ≡ drop (suc i) ts
drop_set [] i t = refl
drop_set (x ∷ ts) zero t = refl
drop_set (x ∷ ts) (suc i) t = drop_set ts i t

module _ (test : Option ℕ → Bool) where
  one_more : (ts : List (Option ℕ)) (i n : ℕ) → i < length ts → regions_from n test (drop i ts) ≡ (if test (at ts i) then n ∷ regions_from (n + 1) test (drop (suc i) ts) else regions_from (n + 1) test (drop (suc i) ts))
  one_more [] i n h = absurd (omega arith)
  one_more (t ∷ ts) zero n h = refl
  one_more (t ∷ ts) (suc i) n h = one_more ts i n (omega arith)

  pub region_goes : (p : PolicyView) (i : ℕ) → i < length p.tags → test (at p.tags i) ≡ true
      → leave_all (regions_from (i + 1) test (drop (i + 1) (leave i p).tags)) (leave i p) ≡ leave_all (regions_from i test (drop i p.tags)) p
  region_goes p i h t =
      let more = rw t at (one_more p.tags i i h) in
      rw (more, add-one i, drop_set p.tags i None) refl

  pub region_stays : (p : PolicyView) (i : ℕ) → i < length p.tags → test (at p.tags i) ≡ false
      → regions_from (i + 1) test (drop (i + 1) p.tags) ≡ regions_from i test (drop i p.tags)
  region_stays p i h t =
      let more = rw t at (one_more p.tags i i h) in
      rw (more, add-one i) refl

pub leaving_all : (rs : List ℕ) (p : PolicyView) → (leave_all rs p).leaving ≡ p.leaving ++ rs
leaving_all [] p = sym (append-nil p.leaving)
leaving_all (r ∷ rs) p = leaving_all rs (leave r p) ∙ append_assoc p.leaving (r ∷ []) rs

pub tag_after : (j : ℕ) (rs : List ℕ) (p : PolicyView) → tag_at (leave_all rs p) j ≡ (if is_in j rs then None else tag_at p j)
tag_after j [] p = refl
tag_after j (r ∷ rs) p = elim (cases_eq r j) [
  | inl e ↦
      let gone : at (slice_set p.tags r None) j ≡ None = rw (← e) (at_gone p.tags r) in
      tag_after j rs (leave r p) ∙ rw (eq-eqb r j e, gone) (elim (cases_Bool (is_in j rs)) [ inl t ↦ rw t refl | inr t ↦ rw t refl ])
  | inr d ↦
      let same : at (slice_set p.tags r None) j ≡ at p.tags j = at_other p.tags r j None (λ e. d (sym e)) in
      tag_after j rs (leave r p) ∙ rw (ne_eqb r j d, same) refl
]

none_below : (test : Option ℕ → Bool) (j i : ℕ) (ts : List (Option ℕ)) → j < i → is_in j (regions_from i test ts) ≡ false
none_below test j i [] h = refl
none_below test j i (t ∷ ts) h = elim (cases_Bool (test t)) [
  | inl u ↦ rw (u, ne_eqb i j (λ e. absurd (omega (arith, e, h)))) (none_below test j (i + 1) ts (omega arith))
  | inr u ↦ rw u (none_below test j (i + 1) ts (omega arith))
]

pub is_region_from : (m : ℕ) (ts : List (Option ℕ)) (i k j : ℕ) → j ≡ i + k → is_in j (regions_from i (is_of m) ts) ≡ is_of m (at ts k)
is_region_from m [] i k j s = refl
is_region_from m (t ∷ ts) i zero j s = elim (cases_Bool (is_of m t)) [
  | inl u ↦ rw (u, eq-eqb i j (omega (arith, s))) refl
  | inr u ↦ rw u (none_below (is_of m) j (i + 1) ts (omega (arith, s)))
]
is_region_from m (t ∷ ts) i (suc k) j s = elim (cases_Bool (is_of m t)) [
  | inl u ↦ rw (u, ne_eqb i j (λ e. absurd (omega (arith, e, s)))) (is_region_from m ts (i + 1) k j (omega (arith, s)))
  | inr u ↦ rw u (is_region_from m ts (i + 1) k j (omega (arith, s)))
]

pub cleared_tag : (m j : ℕ) (p : PolicyView) → tag_at (leave_all (regions_from 0 (is_of m) p.tags) p) j ≡ (if is_of m (tag_at p j) then None else tag_at p j)
cleared_tag m j p = tag_after j (regions_from 0 (is_of m) p.tags) p ∙ rw (is_region_from m p.tags 0 j j (omega arith)) refl

pub some_of : (m : ℕ) (t : Option ℕ) → is_of m t ≡ true → IsSome t
some_of m None h = absurd (cc)
some_of m (Some t) h = refl

pub drop_end : (i : ℕ) (ts : List (Option ℕ)) → length ts ≤ i → drop i ts ≡ []
drop_end zero [] h = refl
drop_end (suc i) [] h = refl
drop_end zero (x ∷ ts) h = absurd (omega arith)
drop_end (suc i) (x ∷ ts) h = drop_end i ts (omega arith)
