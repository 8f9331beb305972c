-- What a node and the ends of a list tell, where the links are right.
use Rattle.std.proofs.Common.{arith, ◌≡◌, ◌<◌, ◌+◌, ℕ, zero, suc, true, List, [], ◌∷◌, sym, ◌∙◌, ap, inl, inr, refl, length, Option, Some, None}
use Rattle.std.specs.Prelude.{◌==◌, slice_get, IfSome}
use Rattle.std.proofs.lemmas.Bool.{cases_Bool, cases_lt}
use Rattle.freq_lists.specs.declared.links.Node.{Node}
use Rattle.freq_lists.specs.declared.links.Ends.{Ends}
use Rattle.freq_lists.specs.Lists as lists
use Rattle.freq_lists.specs.Lists.{times, times_in, behind, list_at, head, is_in, list_of}
use Rattle.freq_lists.specs.Links.{IsLinked, ahead, last_of}
use Rattle.freq_lists.proofs.Counts.{list_of_none, list_of_some, next_is}
use Rattle.freq_lists.proofs.Beside.{behind_in, ahead_in, last_in}
use Rattle.freq_lists.proofs.Linked.{most_at, none_first}

pub all_below : (o : Option ℕ) (bound : ℕ) → ((m : ℕ) → o ≡ Some m → m < bound) → IfSome o (λ m. m < bound)
all_below None bound h = tt
all_below (Some m) bound h = h m refl

is_in_some : (n : ℕ) (l : List ℕ) → 0 < times_in n l → is_in n l ≡ true
is_in_some n [] h = absurd (omega (arith, h))
is_in_some n (x ∷ l) h = elim (cases_Bool (x == n)) [
  | inl t ↦ rw t refl
  | inr t ↦ let s = rw t at h in rw t (is_in_some n l (omega (arith, s)))
]

found : (n : ℕ) (ls : List (List ℕ)) → 0 < times n ls → (k : ℕ) × (0 < times_in n (list_at k ls))
found n [] h = absurd (omega (arith, h))
found n (l ∷ ls) h = elim (cases_lt 0 (times_in n l)) [
  | inl s ↦ (0, s)
  | inr s ↦ let r = found n ls (omega (arith, h, s)) in (suc r.0, r.1)
]

within : (n k : ℕ) (ls : List (List ℕ)) → 0 < times_in n (list_at k ls) → k < length ls
within n k [] h = absurd (omega (arith, h))
within n zero (l ∷ ls) h = omega arith
within n (suc k) (l ∷ ls) h = omega (arith, within n k ls h)

module _ (ns : List Node) (es : List Ends) (ls : List (List ℕ)) (is : IsLinked ns es ls) where
  -- the ends of list k
  pub last_is : (k : ℕ) (e : Ends) → k < length ls → slice_get es k ≡ Some e → (e.first ≡ head (list_at k ls)) × (e.last ≡ last_of None (list_at k ls))
  last_is k e h at =
      let s = sym at ∙ is.ends k h in
      let same : e ≡ record { first = head (list_at k ls); last = last_of None (list_at k ls) } = cc in
      (ap (λ (v : Ends). v.first) same, ap (λ (v : Ends). v.last) same)

  pub last_range : (k : ℕ) → IfSome (last_of None (list_at k ls)) (λ p. p < length ns)
  last_range k = all_below _ _ (λ m e. is.range m (omega (arith, last_in None m (list_at k ls) (none_first m) e, most_at m k ls)))

  module _ (n : ℕ) (v : Node) (h : n < length ns) (at : slice_get ns n ≡ Some v) where
    listed_is : (k : ℕ) → 0 < times_in n (list_at k ls) → v ≡ record { previous = ahead None n (list_at k ls); next = behind n (list_at k ls); list = Some k }
    listed_is k some = let s = sym at ∙ is.listed k n some in cc

    free_is : times n ls ≡ 0 → v ≡ record { previous = None; next = None; list = None }
    free_is none = let s = sym at ∙ is.free n h none in cc

    pub list_is : v.list ≡ list_of n ls
    list_is = elim (cases_lt 0 (times n ls)) [
      | inl some ↦
          let r = found n ls some in
          let z : 0 + r.0 ≡ r.0 = omega arith in
          ap (λ (m : Node). m.list) (listed_is r.0 r.1) ∙ sym (list_of_some n r.0 0 ls (is.once n) (is_in_some n (list_at r.0 ls) r.1) ∙ ap (λ (k : ℕ). Some k) z)
      | inr none ↦ ap (λ (m : Node). m.list) (free_is (omega (arith, none))) ∙ sym (list_of_none n 0 ls (omega (arith, none)))
    ]

    pub next_is_its : 0 < times n ls → v.next ≡ lists.next n ls
    next_is_its some =
        let r = found n ls some in
        ap (λ (m : Node). m.next) (listed_is r.0 r.1) ∙ sym (next_is n r.0 ls (is.once n) (is_in_some n (list_at r.0 ls) r.1))

    pub list_range : IfSome v.list (λ k. k < length ls)
    list_range = elim (cases_lt 0 (times n ls)) [
      | inl some ↦ let r = found n ls some in rw (listed_is r.0 r.1) (within n r.0 ls r.1)
      | inr none ↦ rw (free_is (omega (arith, none))) tt
    ]

    -- a node that has a list is in it, with its neighbours there
    pub in_list : (k : ℕ) → v.list ≡ Some k → (k < length ls) × (times_in n (list_at k ls) ≡ 1) × (v.previous ≡ ahead None n (list_at k ls)) × (v.next ≡ behind n (list_at k ls))
    in_list k e = elim (cases_lt 0 (times n ls)) [
      | inl some ↦
          let r = found n ls some in
          let same = listed_is r.0 r.1 in
          let s : Some r.0 ≡ Some k = sym (ap (λ (m : Node). m.list) same) ∙ e in
          let i : r.0 ≡ k = cc in
          let here : 0 < times_in n (list_at k ls) = rw i at r.1 in
          let is_k = listed_is k here in
          (within n k ls here, omega (arith, here, most_at n k ls, is.once n), ap (λ (m : Node). m.previous) is_k, ap (λ (m : Node). m.next) is_k)
      | inr none ↦ absurd (let s : None ≡ Some k = sym (ap (λ (m : Node). m.list) (free_is (omega (arith, none)))) ∙ e in cc)
    ]

    pub has_list : 0 < times n ls → v.list ≡ None → ⊥
    has_list some e =
        let r = found n ls some in
        let s : None ≡ Some r.0 = sym e ∙ ap (λ (m : Node). m.list) (listed_is r.0 r.1) in
        cc

  pub ahead_range : (n k : ℕ) → IfSome (ahead None n (list_at k ls)) (λ p. p < length ns)
  ahead_range n k = all_below _ _ (λ m e. is.range m (omega (arith, ahead_in None n m (list_at k ls) (none_first m) e, most_at m k ls)))

  pub behind_range : (n k : ℕ) → IfSome (behind n (list_at k ls)) (λ p. p < length ns)
  behind_range n k = all_below _ _ (λ m e. is.range m (omega (arith, behind_in n m (list_at k ls) e, most_at m k ls)))
