-- The order of terms, and rows that follow one another.
use Rattle.std.proofs.Common.{arith, ◌≡◌, ℕ, ◌<◌, List, ◌∷◌, sym, Bool, true, false, refl, ap, true≢false, Ordering, Less, Equal, Greater}
use Rattle.std.specs.Prelude.{◌&&◌, ◌||◌, nat_lt}
use Rattle.std.specs.Ordering.{nat_cmp, is_lt}
use Rattle.std.specs.Cmp.Lexicographic.{slice_cmp}
use Rattle.std.specs.Str.{bytes_eq}
use Rattle.std.proofs.Math.Logic.{◌⊎◌, inl, inr}
use Rattle.std.proofs.lemmas.Bool.Decides.{nat_tests}
use Rattle.std.proofs.lemmas.Cmp.{nat_list_cmp_total}
use Rattle.std.proofs.lemmas.Slice.Eq.{bytes_eq-Decides}
use Rattle.simpletext_postings.specs.Rows.{is_later, has_field, may_follow}
use Rattle.simpletext_postings.specs.declared.rows.Row.{Row}

-- ---- the order of terms

abbrev pub Below : List ℕ → List ℕ → Type 0
Below s t = is_lt (slice_cmp nat_cmp s t) ≡ true

less : (o : Ordering) → is_lt o ≡ true → o ≡ Less
less Less h = refl
less Equal h = absurd (true≢false (sym h))
less Greater h = absurd (true≢false (sym h))

pub below_trans : (s t u : List ℕ) → Below s t → Below t u → Below s u
below_trans s t u a b = ap is_lt (nat_list_cmp_total.trans s t u (less _ a) (less _ b))

pub same_bytes : (s t : List ℕ) → bytes_eq s t ≡ true → s ≡ t
same_bytes s t h = (bytes_eq-Decides s t).0 h

pub bytes_same : (s t : List ℕ) → s ≡ t → bytes_eq s t ≡ true
bytes_same s t h = (bytes_eq-Decides s t).1 h

pub not_below_itself : (s : List ℕ) → Below s s → true ≡ false
not_below_itself s h =
    let l = less _ h in
    let a = nat_list_cmp_total.antisymm s s in
    cc

-- ---- rows that follow

pub either_way : (p r : Row) (same later : Bool) → bytes_eq p.term r.term ≡ same → is_lt (slice_cmp nat_cmp p.term r.term) ≡ later → is_later p r ≡ true
    → ((p.term ≡ r.term) × (p.doc < r.doc)) ⊎ Below p.term r.term
either_way p r same true s l h = inr l
either_way p r true false s l h =
    let e : nat_lt p.doc r.doc ≡ true = only_first _ (rw (s, l) at h) in
    inl (same_bytes _ _ s, grind (arith, nat_tests))
  where
    only_first : (b : Bool) → ((true && b) || false) ≡ true → b ≡ true
    only_first true h = refl
    only_first false h = h
either_way p r false false s l h = absurd (true≢false (sym (rw (s, l) at h)))

pub later : (before : List Row) (p r : Row) → may_follow (p ∷ before) r ≡ true → p.field ≡ r.field
    → ((p.term ≡ r.term) × (p.doc < r.doc)) ⊎ Below p.term r.term
later before p r h same =
    let test : has_field r.field p ≡ true = bytes_same _ _ same in
    let is : is_later p r ≡ true = rw test at h in
    either_way p r _ _ refl refl is
