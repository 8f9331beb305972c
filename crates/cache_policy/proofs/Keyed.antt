-- The table stays beside the keys by region where a key is given and where one is forgotten.
use Rattle.std.proofs.Common.{arith, ◌≡◌, ◌<◌, ◌≤◌, ◌+◌, ℕ, zero, suc, Bool, false, List, [], ◌∷◌, sym, ◌∙◌, ap, inl, inr, refl, length, Option, Some, None, replicate}
use Rattle.std.specs.Prelude.{◌==◌, slice_set, filter, is_some, IsSome, if◌then◌else◌}
use Rattle.std.specs.List.{position_from}
use Rattle.std.proofs.lemmas.List.{length-set, length-replicate}
use Rattle.std.proofs.lemmas.Bool.{cases_eq, cases_Bool, eq-eqb, ne_eqb}
use Rattle.key_table.specs.Slots.{TableView, region_of, keys_len}
use Rattle.cache_policy.specs.Policy.{is_tag}
use Rattle.cache_policy.specs.Keyed.{IsIndex, AreApart}
use Rattle.cache_policy.proofs.Tags.{at, at_same, at_other, is_tag_at, is_tag_same, not_found}

-- a write that the test sees neither before nor after
unseen : (test : Option ℕ → Bool) (ts : List (Option ℕ)) (r i : ℕ) (t : Option ℕ) → r < length ts → test (at ts r) ≡ false → test t ≡ false → position_from test i (slice_set ts r t) ≡ position_from test i ts
unseen test [] r i t h a b = refl
unseen test (x ∷ ts) zero i t h a b = rw (b, (let c : test x ≡ false = a in c)) refl
unseen test (x ∷ ts) (suc r) i t h a b = elim (cases_Bool (test x)) [
  | inl c ↦ rw c refl
  | inr c ↦ rw c (unseen test ts r (i + 1) t (omega arith) a b)
]

none_found : (tag : ℕ) (ts : List (Option ℕ)) (i : ℕ) → ((j : ℕ) → at ts j ≡ Some tag → ⊥) → position_from (is_tag tag) i ts ≡ None
none_found tag [] i none = refl
none_found tag (t ∷ ts) i none = elim (cases_Bool (is_tag tag t)) [
  | inl c ↦ absurd (none 0 (is_tag_at tag t c))
  | inr c ↦ rw c (none_found tag ts (i + 1) (λ j h. none (suc j) h))
]

found_new : (tag : ℕ) (ts : List (Option ℕ)) (r i : ℕ) → r < length ts → position_from (is_tag tag) i ts ≡ None → position_from (is_tag tag) i (slice_set ts r (Some tag)) ≡ Some (i + r)
found_new tag [] r i h none = absurd (omega arith)
found_new tag (t ∷ ts) zero i h none = let e : i ≡ i + 0 = omega arith in rw (is_tag_same tag) (ap (λ (k : ℕ). Some k) e)
found_new tag (t ∷ ts) (suc r) i h none = elim (cases_Bool (is_tag tag t)) [
  | inl c ↦ absurd (let n = rw c at none in cc)
  | inr c ↦ let n = rw c at none in let e : i + 1 + r ≡ i + suc r = omega arith in rw c (found_new tag ts r (i + 1) (omega arith) n ∙ ap (λ (k : ℕ). Some k) e)
]

abbrev one : Option ℕ → ℕ
one None = 0
one (Some t) = 1

set_len : (ts : List (Option ℕ)) (r : ℕ) (t : Option ℕ) → r < length ts → length (filter is_some (slice_set ts r t)) + one (at ts r) ≡ length (filter is_some ts) + one t
set_len [] r t h = absurd (omega arith)
set_len (None ∷ ts) zero None h = refl
set_len (Some x ∷ ts) zero None h = omega arith
set_len (None ∷ ts) zero (Some t) h = omega arith
set_len (Some x ∷ ts) zero (Some t) h = refl
set_len (None ∷ ts) (suc r) t h = set_len ts r t (omega arith)
set_len (Some x ∷ ts) (suc r) t h = omega (arith, set_len ts r t (omega arith))

most_len : (ts : List (Option ℕ)) → length (filter is_some ts) ≤ length ts
most_len [] = omega arith
most_len (None ∷ ts) = omega (arith, most_len ts)
most_len (Some x ∷ ts) = omega (arith, most_len ts)

other_tag : (k t : ℕ) → ¬ (k ≡ t) → is_tag k (Some t) ≡ false
other_tag k t d = ne_eqb t k (λ e. d (sym e))

module _ (keys new : TableView) (ts : List (Option ℕ)) (r tag : ℕ) (is : IsIndex keys ts) (h : r < length ts) where
  -- there is room for the key of a region that has none
  pub room : at ts r ≡ None → keys_len keys < keys.most
  room none =
      let a = set_len ts r (Some tag) h in
      let b = rw none at a in
      omega (arith, b, is.len, is.most, most_len (slice_set ts r (Some tag)), length-set ts r (Some tag))

  pub index_given : at ts r ≡ None → position_from (is_tag tag) 0 ts ≡ None → ((k : ℕ) → region_of k new ≡ (if k == tag then Some r else region_of k keys)) → keys_len new ≡ keys_len keys + 1 → new.most ≡ keys.most
      → IsIndex new (slice_set ts r (Some tag))
  index_given none free regions len most = record {
    regions = λ k. elim (cases_eq k tag) [
      | inl e ↦ regions k ∙ rw (eq-eqb k tag e, e) (sym (found_new tag ts r 0 h free ∙ ap (λ (n : ℕ). Some n) (zero_plus r)))
      | inr d ↦ regions k ∙ rw (ne_eqb k tag d) (is.regions k ∙ sym (unseen (is_tag k) ts r 0 (Some tag) h (rw none refl) (other_tag k tag d)))
    ];
    len = let a = rw none at (set_len ts r (Some tag) h) in omega (arith, a, len, is.len);
    most = most ∙ is.most ∙ sym (length-set ts r (Some tag));
  }
    where
      zero_plus : (n : ℕ) → 0 + n ≡ n
      zero_plus n = omega arith

  pub index_forgotten : AreApart ts → at ts r ≡ Some tag → ((k : ℕ) → region_of k new ≡ (if k == tag then None else region_of k keys)) → keys_len new + 1 ≡ keys_len keys → new.most ≡ keys.most
      → IsIndex new (slice_set ts r None)
  index_forgotten apart here regions len most = record {
    regions = λ k. elim (cases_eq k tag) [
      | inl e ↦ regions k ∙ rw (eq-eqb k tag e, e) (sym (none_found tag (slice_set ts r None) 0 gone))
      | inr d ↦ regions k ∙ rw (ne_eqb k tag d) (is.regions k ∙ sym (unseen (is_tag k) ts r 0 None h (rw here (other_tag k tag d)) refl))
    ];
    len = let a = rw here at (set_len ts r None h) in omega (arith, a, len, is.len);
    most = most ∙ is.most ∙ sym (length-set ts r None);
  }
    where
      gone : (j : ℕ) → at (slice_set ts r None) j ≡ Some tag → ⊥
      gone j g = elim (cases_eq j r) [
        | inl e ↦ let b : None ≡ Some tag = sym (at_same ts r None h) ∙ (rw e at g) in cc
        | inr d ↦ d (apart j r tag (sym (at_other ts r j None d) ∙ g) here)
      ]

pub has_region : (k r tag : ℕ) (ts : List (Option ℕ)) (keys : TableView) → IsIndex keys ts → at ts r ≡ Some tag → IsSome (region_of tag keys)
has_region k r tag ts keys is here = by (region_of tag keys) refl
  where
    by : (o : Option ℕ) → region_of tag keys ≡ o → IsSome (region_of tag keys)
    by None e = absurd (not_found tag ts 0 r (sym (is.regions tag) ∙ e) here)
    by (Some s) e = rw e refl

none_at : (tag n i : ℕ) → position_from (is_tag tag) i (replicate n None) ≡ None
none_at tag zero i = refl
none_at tag (suc n) i = none_at tag n (i + 1)

none_len : (n : ℕ) → length (filter is_some (replicate {A = Option ℕ} n None)) ≡ 0
none_len zero = refl
none_len (suc n) = none_len n

pub index_new : (keys : TableView) (n : ℕ) (ts : List (Option ℕ)) → ts ≡ replicate n None → ((k : ℕ) → region_of k keys ≡ None) → keys_len keys ≡ 0 → keys.most ≡ n → IsIndex keys ts
index_new keys n ts e empty len most = rw e (record {
  regions = λ k. empty k ∙ sym (none_at k n 0);
  len = len ∙ sym (none_len n);
  most = most ∙ sym (length-replicate {A = Option ℕ} n None);
})
