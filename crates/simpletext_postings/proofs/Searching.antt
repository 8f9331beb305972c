-- A search by halves among terms that rise.
use Rattle.std.proofs.Common.{arith, ◌≡◌, ℕ, zero, suc, ◌+◌, ◌<◌, ◌≤◌, length, get_or, drop, List, [], ◌∷◌, Option, Some, None, sym, Bool, true, false, refl, ap, ap₂, ◌∙◌, subst, true≢false}
use Rattle.std.specs.Prelude.{◌==◌, ◌&&◌, ◌||◌, map, filter, nat_lt, nat_le, if◌then◌else◌}
use Rattle.std.specs.Ordering.{nat_cmp, is_lt}
use Rattle.std.specs.Cmp.Lexicographic.{slice_cmp}
use Rattle.std.specs.List.{list_all, list_any}
use Rattle.std.specs.Str.{bytes_eq}
use Rattle.std.proofs.Math.Logic.{◌⊎◌, inl, inr}
use Rattle.std.proofs.lemmas.Bool.{and_parts, and_from, or_left, or_right, lt-ltb, le-ltb}
use Rattle.std.proofs.lemmas.Bool.Decides.{nat_tests}
use Rattle.std.proofs.lemmas.List.{get_or-map, length-map, drop_more}
use Rattle.simpletext_postings.specs.Terms.{TermEntry, entry_of, is_entry}
use Rattle.simpletext_postings.specs.Places.{NumberedTerm, ArePlaces, numbered, named, name_of, lies_in, is_place, is_before, is_under, count_under, rise, differ}
use Rattle.simpletext_postings.specs.declared.places.Place.{Place}
use Rattle.simpletext_postings.proofs.Naming.{lies}
use Rattle.simpletext_postings.proofs.Rising.{Below, below_trans, same_bytes, bytes_same, not_below_itself}
use Rattle.simpletext_postings.proofs.Finding.{any_at, differ_index, field_of}

-- ---- the order of terms of fields

abbrev IsLower : ℕ → List ℕ → ℕ → List ℕ → Type 0
IsLower f s g t = (f < g) ⊎ ((f ≡ g) × Below s t)

abbrev is_lower : ℕ → List ℕ → ℕ → List ℕ → Bool
is_lower f s g t = nat_lt f g || ((f == g) && is_lt (slice_cmp nat_cmp s t))

lower_by : (f : ℕ) (s : List ℕ) (g : ℕ) (t : List ℕ) (b : Bool) → nat_lt f g ≡ b → is_lower f s g t ≡ true → IsLower f s g t
lower_by f s g t true e h = inl (grind (arith, nat_tests))
lower_by f s g t false e h =
    let own = rw e at h in
    let parts = and_parts (f == g) (is_lt (slice_cmp nat_cmp s t)) own in
    let same = parts.0 in
    inr (grind (arith, nat_tests), parts.1)

lower : (f : ℕ) (s : List ℕ) (g : ℕ) (t : List ℕ) → is_lower f s g t ≡ true → IsLower f s g t
lower f s g t h = lower_by f s g t _ refl h

lower_of : (f : ℕ) (s : List ℕ) (g : ℕ) (t : List ℕ) → IsLower f s g t → is_lower f s g t ≡ true
lower_of f s g t (inl h) = let e : nat_lt f g ≡ true = grind (arith, nat_tests) in or_left _ _ e
lower_of f s g t (inr h) =
    let own = h.0 in
    let e : (f == g) ≡ true = grind (arith, nat_tests) in
    or_right (nat_lt f g) ((f == g) && is_lt (slice_cmp nat_cmp s t)) (and_from _ _ e h.1)

lower_trans : (f : ℕ) (s : List ℕ) (g : ℕ) (t : List ℕ) (k : ℕ) (u : List ℕ) → IsLower f s g t → IsLower g t k u → IsLower f s k u
lower_trans f s g t k u (inl a) (inl b) = inl (omega (arith, a, b))
lower_trans f s g t k u (inl a) (inr b) = inl (omega (arith, a, b.0))
lower_trans f s g t k u (inr a) (inl b) = inl (omega (arith, a.0, b))
lower_trans f s g t k u (inr a) (inr b) = inr (a.0 ∙ b.0, below_trans s t u a.1 b.1)

not_lower_itself : (f : ℕ) (s : List ℕ) → IsLower f s f s → true ≡ false
not_lower_itself f s (inl a) = absurd (omega (arith, a))
not_lower_itself f s (inr a) = not_below_itself s a.1

-- ---- how many stand before a term

shifted_by : (k n m : ℕ) (b : Bool) → nat_lt k n ≡ b → m ≡ suc n → b ≡ nat_lt (suc k) m
shifted_by k n m true e h = let lt : k < n = grind (arith, nat_tests) in sym (lt-ltb (suc k) m (omega (arith, lt, h)))
shifted_by k n m false e h = let le : n ≤ k = grind (arith, nat_tests) in sym (le-ltb (suc k) m (omega (arith, le, h)))

shifted : (k n m : ℕ) → m ≡ suc n → nat_lt k n ≡ nat_lt (suc k) m
shifted k n m h = shifted_by k n m _ refl h

module _ (number : ℕ) (term : List ℕ) where
  under_trans : (p q : NumberedTerm) → is_before p q ≡ true → is_under number term q ≡ true → is_under number term p ≡ true
  under_trans p q h k =
      lower_of p.field p.term number term
      (lower_trans p.field p.term q.field q.term number term (lower p.field p.term q.field q.term h) (lower q.field q.term number term k))

  not_under : (p q : NumberedTerm) (b : Bool) → is_under number term q ≡ b → is_before p q ≡ true → is_under number term p ≡ false → b ≡ false
  not_under p q false e h over = refl
  not_under p q true e h over = absurd (true≢false (sym (under_trans p q h e) ∙ over))

  none_under : (p : NumberedTerm) (ps : List NumberedTerm) → list_all (is_before p) ps ≡ true → is_under number term p ≡ false → filter (is_under number term) ps ≡ []
  none_under p [] h over = refl
  none_under p (q ∷ ps) h over =
      let hs = and_parts (is_before p q) (list_all (is_before p) ps) h in
      let own = not_under p q _ refl hs.0 over in
      rw own (none_under p ps hs.1 over)

  count_none : (p : NumberedTerm) (ps : List NumberedTerm) → list_all (is_before p) ps ≡ true → is_under number term p ≡ false → count_under number term ps ≡ 0
  count_none p ps h over = ap length (none_under p ps h over)

  count_by : (p : NumberedTerm) (ps : List NumberedTerm) (b : Bool) → is_under number term p ≡ b
      → count_under number term (p ∷ ps) ≡ (if b then suc (count_under number term ps) else count_under number term ps)
  count_by p ps true e = rw e refl
  count_by p ps false e = rw e refl

  none_at_by : (p : NumberedTerm) (ps : List NumberedTerm) (k : ℕ) (d : NumberedTerm) (b : Bool) → is_under number term p ≡ b → filter (is_under number term) (p ∷ ps) ≡ []
      → k < length (p ∷ ps) → ((j : ℕ) → filter (is_under number term) ps ≡ [] → j < length ps → is_under number term (get_or ps j d) ≡ false)
      → is_under number term (get_or (p ∷ ps) k d) ≡ false
  none_at_by p ps k d true e h lt ih = let own = rw e at h in absurd (cc)
  none_at_by p ps zero d false e h lt ih = e
  none_at_by p ps (suc k) d false e h lt ih = ih k (rw e at h) (omega arith)

  few_by : (p : NumberedTerm) (ps : List NumberedTerm) (b : Bool) → is_under number term p ≡ b → count_under number term ps ≤ length ps
      → count_under number term (p ∷ ps) ≤ length (p ∷ ps)
  few_by p ps true e ih = let n = count_by p ps true e in omega (arith, n, ih)
  few_by p ps false e ih = let n = count_by p ps false e in omega (arith, n, ih)

  pub few_under : (ps : List NumberedTerm) → count_under number term ps ≤ length ps
  few_under [] = omega arith
  few_under (p ∷ ps) = few_by p ps _ refl (few_under ps)

  none_at : (ps : List NumberedTerm) (k : ℕ) (d : NumberedTerm) → filter (is_under number term) ps ≡ [] → k < length ps → is_under number term (get_or ps k d) ≡ false
  none_at [] k d h lt = absurd (omega arith)
  none_at (p ∷ ps) k d h lt = none_at_by p ps k d _ refl h lt (λ j. none_at ps j d)

  counted_by : (p : NumberedTerm) (ps : List NumberedTerm) (k : ℕ) (d : NumberedTerm) (b : Bool) → is_under number term p ≡ b → list_all (is_before p) ps ≡ true
      → k < length (p ∷ ps) → ((j : ℕ) → j < length ps → is_under number term (get_or ps j d) ≡ nat_lt j (count_under number term ps))
      → is_under number term (get_or (p ∷ ps) k d) ≡ nat_lt k (count_under number term (p ∷ ps))
  counted_by p ps zero d true e before lt ih =
      let n : count_under number term (p ∷ ps) ≡ suc (count_under number term ps) = count_by p ps true e in
      e ∙ sym (lt-ltb 0 (count_under number term (p ∷ ps)) (omega (arith, n)))
  counted_by p ps (suc k) d true e before lt ih =
      let n : count_under number term (p ∷ ps) ≡ suc (count_under number term ps) = count_by p ps true e in
      ih k (omega (arith, lt)) ∙ shifted k (count_under number term ps) (count_under number term (p ∷ ps)) n
  counted_by p ps zero d false e before lt ih =
      let n = count_by p ps false e ∙ count_none p ps before e in
      e ∙ sym (le-ltb 0 (count_under number term (p ∷ ps)) (omega (arith, n)))
  counted_by p ps (suc k) d false e before lt ih =
      let n = count_by p ps false e ∙ count_none p ps before e in
      none_at ps k d (none_under p ps before e) (omega (arith, lt)) ∙ sym (le-ltb (suc k) (count_under number term (p ∷ ps)) (omega (arith, n)))

  -- a term stands before it just where its number is below the count
  pub counted : (ps : List NumberedTerm) (k : ℕ) (d : NumberedTerm) → rise ps ≡ true → k < length ps
      → is_under number term (get_or ps k d) ≡ nat_lt k (count_under number term ps)
  counted [] k d up lt = absurd (omega arith)
  counted (p ∷ ps) k d up lt =
      let ups = and_parts (list_all (is_before p) ps) (rise ps) up in
      counted_by p ps k d _ refl ups.0 lt (λ j. counted ps j d ups.1)

-- ---- what stands there

module _ (size : ℕ) (fields : List (List ℕ)) (different : differ fields ≡ true) (number : ℕ) (field term : List ℕ) (few : number < length fields)
    (name : get_or fields number [] ≡ field) where
  abbrev Entry : NumberedTerm → Bool
  Entry p = is_entry field term (named fields p)

  abbrev entry_in : List NumberedTerm → Option TermEntry
  entry_in ps = entry_of field term (map (named fields) ps)

  entry_number : (p : NumberedTerm) → p.field < length fields → Entry p ≡ true → (p.field ≡ number) × (p.term ≡ term)
  entry_number p lt h =
      let parts = and_parts (bytes_eq (get_or fields p.field []) field) (bytes_eq p.term term) h in
      (differ_index fields p.field number different lt few (same_bytes _ _ parts.0 ∙ sym name), same_bytes _ _ parts.1)

  pub number_entry : (p : NumberedTerm) → p.field ≡ number → p.term ≡ term → Entry p ≡ true
  number_entry p f t = and_from _ _ (bytes_same _ _ (ap (λ i. get_or fields i []) f ∙ name)) (bytes_same _ _ t)

  under_other : (p : NumberedTerm) (b : Bool) → Entry p ≡ b → p.field < length fields → is_under number term p ≡ true → b ≡ false
  under_other p false e lt h = refl
  under_other p true e lt h =
      let same = entry_number p lt e in
      let own : is_lower number term number term ≡ true = sym (ap₂ (λ k s. is_lower k s number term) same.0 same.1) ∙ h in
      not_lower_itself number term (lower number term number term own)

  later_other : (p q : NumberedTerm) (b : Bool) → Entry q ≡ b → q.field < length fields → is_before p q ≡ true → is_under number term p ≡ false → b ≡ false
  later_other p q false e lt h over = refl
  later_other p q true e lt h over =
      let same = entry_number q lt e in
      let own : is_under number term p ≡ true = sym (ap₂ (λ k s. is_under k s p) same.0 same.1) ∙ h in
      sym own ∙ over

  none_later : (p : NumberedTerm) (ps : List NumberedTerm) → list_all (is_place size (length fields)) ps ≡ true → list_all (is_before p) ps ≡ true → is_under number term p ≡ false
      → entry_in ps ≡ None
  none_later p [] inside before over = refl
  none_later p (q ∷ ps) inside before over =
      let is = and_parts (is_place size (length fields) q) (list_all (is_place size (length fields)) ps) inside in
      let bs = and_parts (is_before p q) (list_all (is_before p) ps) before in
      let own = later_other p q _ refl (field_of field term fields size different q is.0) bs.0 over in
      rw own (none_later p ps is.1 bs.1 over)

  abbrev IsFoundAt : List NumberedTerm → ℕ → NumberedTerm → Type 0
  IsFoundAt ps k d = entry_in ps ≡ (if Entry (get_or ps k d) then Some (named fields (get_or ps k d)) else None)

  at_by : (p : NumberedTerm) (ps : List NumberedTerm) (k : ℕ) (d : NumberedTerm) (b here : Bool) → is_under number term p ≡ b → Entry p ≡ here → p.field < length fields
      → list_all (is_place size (length fields)) ps ≡ true → list_all (is_before p) ps ≡ true → count_under number term (p ∷ ps) ≡ k → k < length (p ∷ ps)
      → ((j : ℕ) → count_under number term ps ≡ j → j < length ps → IsFoundAt ps j d) → IsFoundAt (p ∷ ps) k d
  at_by p ps zero d true here e f lt inside before n few ih = let own = sym (count_by number term p ps true e) ∙ n in absurd (omega (arith, own))
  at_by p ps (suc k) d true here e f lt inside before n few ih =
      let own = sym (count_by number term p ps true e) ∙ n in
      let over = under_other p _ refl lt e in
      rw over (ih k (omega (arith, own)) (omega arith))
  at_by p ps zero d false true e f lt inside before n few ih = rw f refl
  at_by p ps zero d false false e f lt inside before n few ih = rw f (none_later p ps inside before e)
  at_by p ps (suc k) d false here e f lt inside before n few ih =
      let own = sym (count_by number term p ps false e ∙ count_none number term p ps before e) ∙ n in absurd (omega (arith, own))

  -- the entry is the term at the count, or there is none
  pub found_at : (ps : List NumberedTerm) (k : ℕ) (d : NumberedTerm) → list_all (is_place size (length fields)) ps ≡ true → rise ps ≡ true
      → count_under number term ps ≡ k → k < length ps → IsFoundAt ps k d
  found_at [] k d inside up n lt = absurd (omega (arith, lt))
  found_at (p ∷ ps) k d inside up n lt =
      let is = and_parts (is_place size (length fields) p) (list_all (is_place size (length fields)) ps) inside in
      let ups = and_parts (list_all (is_before p) ps) (rise ps) up in
      at_by p ps k d _ _ refl refl (field_of field term fields size different p is.0) is.1 ups.0 n lt (λ j. found_at ps j d is.1 ups.1)

  past_by : (p : NumberedTerm) (ps : List NumberedTerm) (b : Bool) → is_under number term p ≡ b → p.field < length fields → list_all (is_before p) ps ≡ true
      → length (p ∷ ps) ≤ count_under number term (p ∷ ps) → (length ps ≤ count_under number term ps → entry_in ps ≡ None) → entry_in (p ∷ ps) ≡ None
  past_by p ps true e lt before le ih =
      let n = count_by number term p ps true e in
      let over = under_other p _ refl lt e in
      rw over (ih (omega (arith, n, le)))
  past_by p ps false e lt before le ih = let n = count_by number term p ps false e ∙ count_none number term p ps before e in absurd (omega (arith, n, le))

  -- where all terms stand before it there is none
  pub past_all : (ps : List NumberedTerm) → list_all (is_place size (length fields)) ps ≡ true → rise ps ≡ true → length ps ≤ count_under number term ps → entry_in ps ≡ None
  past_all [] inside up le = refl
  past_all (p ∷ ps) inside up le =
      let is = and_parts (is_place size (length fields) p) (list_all (is_place size (length fields)) ps) inside in
      let ups = and_parts (list_all (is_before p) ps) (rise ps) up in
      past_by p ps _ refl (field_of field term fields size different p is.0) ups.0 le (past_all ps is.1 ups.1)

-- ---- a field that is not there

pub none_here : (name : List ℕ) (fields : List (List ℕ)) (i : ℕ) → i < length fields → bytes_eq name (get_or fields i []) ≡ false
    → list_any (bytes_eq name) (drop (i + 1) fields) ≡ list_any (bytes_eq name) (drop i fields)
none_here name fields i lt other = let e = drop_more fields i [] lt in rw (e, other) refl

not_named : (field : List ℕ) (fields : List (List ℕ)) (k : ℕ) (b : Bool) → bytes_eq (get_or fields k []) field ≡ b → k < length fields → list_any (bytes_eq field) fields ≡ false → b ≡ false
not_named field fields k false e lt h = refl
not_named field fields k true e lt h = sym (any_at field fields k lt (sym (same_bytes _ _ e))) ∙ h

pub no_field : (size : ℕ) (fields : List (List ℕ)) (field term : List ℕ) (ps : List NumberedTerm) → differ fields ≡ true → list_all (is_place size (length fields)) ps ≡ true
    → list_any (bytes_eq field) fields ≡ false → entry_of field term (map (named fields) ps) ≡ None
no_field size fields field term [] different inside h = refl
no_field size fields field term (p ∷ ps) different inside h =
    let is = and_parts (is_place size (length fields) p) (list_all (is_place size (length fields)) ps) inside in
    let own = not_named field fields p.field _ refl (field_of field term fields size different p is.0) h in
    rw own (no_field size fields field term ps different is.1 h)

-- ---- the same of the places

pub lies_at : (n : ℕ) (ps : List Place) (k : ℕ) (d : Place) → list_all (lies_in n) ps ≡ true → k < length ps → (get_or ps k d).start + (get_or ps k d).length ≤ n
lies_at n [] k d h lt = absurd (omega (arith, lt))
lies_at n (p ∷ ps) zero d h lt = let hs = and_parts (lies_in n p) (list_all (lies_in n) ps) h in lies n p hs.0
lies_at n (p ∷ ps) (suc k) d h lt = let hs = and_parts (lies_in n p) (list_all (lies_in n) ps) h in lies_at n ps k d hs.1 (omega (arith, lt))

module _ (names : List ℕ) (places : List Place) (number : ℕ) (term : List ℕ) where
  pub under_at : (k : ℕ) (d : Place) → rise (map (numbered names) places) ≡ true → k < length places
      → is_under number term (numbered names (get_or places k d)) ≡ nat_lt k (count_under number term (map (numbered names) places))
  under_at k d up lt =
      let same = get_or-map (numbered names) places k d (numbered names d) lt in
      let n = length-map places (numbered names) in
      ap (is_under number term) (sym same) ∙ counted number term (map (numbered names) places) k (numbered names d) up (omega (arith, n, lt))

  pub at_most_all : count_under number term (map (numbered names) places) ≤ length places
  at_most_all =
      let n = length-map places (numbered names) in
      let few = few_under number term (map (numbered names) places) in
      omega (arith, n, few)

place_inside : (size n : ℕ) (p : NumberedTerm) → is_place size n p ≡ true → (p.from ≤ p.to) × (p.to ≤ size)
place_inside size n p h =
    let outer = and_parts (nat_lt p.field n && nat_le p.from p.to) (nat_le p.to size) h in
    let inner = and_parts (nat_lt p.field n) (nat_le p.from p.to) outer.0 in
    let a = inner.1 in
    let b = outer.1 in
    (grind (arith, nat_tests), grind (arith, nat_tests))

all_at : (size n : ℕ) (ps : List NumberedTerm) (k : ℕ) (d : NumberedTerm) → list_all (is_place size n) ps ≡ true → k < length ps → is_place size n (get_or ps k d) ≡ true
all_at size n [] k d h lt = absurd (omega (arith, lt))
all_at size n (p ∷ ps) zero d h lt = let hs = and_parts (is_place size n p) (list_all (is_place size n) ps) h in hs.0
all_at size n (p ∷ ps) (suc k) d h lt = let hs = and_parts (is_place size n p) (list_all (is_place size n) ps) h in all_at size n ps k d hs.1 (omega (arith, lt))

module _ (size : ℕ) (fields : List (List ℕ)) (names : List ℕ) (places : List Place) (are : ArePlaces size fields names places) (field term : List ℕ) where
  abbrev all : List NumberedTerm
  all = map (numbered names) places

  abbrev entry : Option TermEntry
  entry = entry_of field term (map (named fields) all)

  pub unknown_field : list_any (bytes_eq field) fields ≡ false → entry ≡ None
  unknown_field h = no_field size fields field term all are.different are.inside h

  pub inside_at : (k : ℕ) (p : Place) → k < length places → p ≡ get_or places k p → (p.from ≤ p.to) × (p.to ≤ size)
  inside_at k p lt is =
      let n = length-map places (numbered names) in
      let same = get_or-map (numbered names) places k p (numbered names p) lt ∙ ap (numbered names) (sym is) in
      place_inside size (length fields) (numbered names p)
      (subst (λ q. is_place size (length fields) q ≡ true) same (all_at size (length fields) all k (numbered names p) are.inside (omega (arith, n, lt))))

  module _ (number : ℕ) (few : number < length fields) (name : get_or fields number [] ≡ field) where
    pub unknown_past : (k : ℕ) → k ≡ count_under number term all → length places ≤ k → entry ≡ None
    unknown_past k n le =
        let m = length-map places (numbered names) in
        past_all size fields are.different number field term few name all are.inside are.rising (omega (arith, m, n, le))

    at : (k : ℕ) (p : Place) → k ≡ count_under number term all → k < length places → p ≡ get_or places k p
        → entry ≡ (if is_entry field term (named fields (numbered names p)) then Some (named fields (numbered names p)) else None)
    at k p n lt is =
        let m = length-map places (numbered names) in
        let same = get_or-map (numbered names) places k p (numbered names p) lt ∙ ap (numbered names) (sym is) in
        subst (λ q. entry ≡ (if is_entry field term (named fields q) then Some (named fields q) else None)) same
        (found_at size fields are.different number field term few name all k (numbered names p) are.inside are.rising (sym n) (omega (arith, m, lt)))

    abbrev Here : Place → Bool
    Here p = (p.field == number) && bytes_eq (name_of names p) term

    pub known : (k : ℕ) (p : Place) → k ≡ count_under number term all → k < length places → p ≡ get_or places k p → Here p ≡ true
        → entry ≡ Some (named fields (numbered names p))
    known k p n lt is h =
        let parts = and_parts (p.field == number) (bytes_eq (name_of names p) term) h in
        let same = parts.0 in
        let own : p.field ≡ number = grind (arith, nat_tests) in
        let e = number_entry size fields are.different number field term few name (numbered names p) own (same_bytes _ _ parts.1) in
        at k p n lt is ∙ (rw e refl)

    other_by : (p : Place) (b : Bool) → is_entry field term (named fields (numbered names p)) ≡ b → p.field < length fields → Here p ≡ false → b ≡ false
    other_by p false e lt h = refl
    other_by p true e lt h =
        let same = entry_number size fields are.different number field term few name (numbered names p) lt e in
        let own = same.0 in
        let f : (p.field == number) ≡ true = grind (arith, nat_tests) in
        sym (and_from _ _ f (bytes_same _ _ same.1)) ∙ h

    pub other : (k : ℕ) (p : Place) → k ≡ count_under number term all → k < length places → p ≡ get_or places k p → Here p ≡ false → entry ≡ None
    other k p n lt is h =
        let m = length-map places (numbered names) in
        let same = get_or-map (numbered names) places k p (numbered names p) lt ∙ ap (numbered names) (sym is) in
        let inside = subst (λ q. is_place size (length fields) q ≡ true) same (all_at size (length fields) all k (numbered names p) are.inside (omega (arith, m, lt))) in
        let e = other_by p _ refl (field_of field term fields size are.different (numbered names p) inside) h in
        at k p n lt is ∙ (rw e refl)
