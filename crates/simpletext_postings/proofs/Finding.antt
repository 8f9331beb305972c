-- The entry of a field and a term is the only one, and what its lines list are the postings.
use Rattle.std.proofs.Common.{arith, ◌≡◌, ℕ, zero, suc, ◌+◌, ◌-◌, ◌<◌, ◌≤◌, length, get_or, List, [], ◌∷◌, append-nil, Option, Some, None, sym, Bool, true, false, refl, ap, ap₂, ◌∙◌, subst, true≢false}
use Rattle.std.specs.Prelude.{◌==◌, ◌&&◌, not, map, filter, nat_lt, nat_le, option_map, Ok}
use Rattle.std.specs.Ordering.{nat_cmp, is_lt}
use Rattle.std.specs.Cmp.Lexicographic.{slice_cmp}
use Rattle.std.specs.List.{list_all, list_any, flat_map}
use Rattle.std.specs.Str.{bytes_eq}
use Rattle.std.proofs.lemmas.Bool.{and_parts, or_left, or_right}
use Rattle.std.proofs.lemmas.Bool.Decides.{nat_tests}
use Rattle.directory_input.specs.Reads.{slice_of}
use Rattle.directory_input.specs.Windows.{Window, window_bytes, part_of}
use Rattle.directory_input.proofs.Slices.{slice_of_window}
use Rattle.text_lines.specs.Lines.{cut}
use Rattle.simpletext_postings.specs.Postings.{postings}
use Rattle.simpletext_postings.specs.Terms.{TermEntry, TermTable, IsTableOf, entry_of, entry_places, is_entry, postings_with, terms_of}
use Rattle.simpletext_postings.specs.Places.{NumberedTerm, numbered, named, is_place, is_before, rise, differ, ArePlaces}
use Rattle.simpletext_postings.specs.Entries.{listed, line_forms, IsEntryText}
use Rattle.simpletext_postings.specs.declared.rows.Row.{Row}
use Rattle.simpletext_postings.specs.declared.places.Place.{Place}
use Rattle.simpletext_postings.proofs.Rising.{Below, same_bytes, bytes_same, not_below_itself}
use Rattle.simpletext_postings.proofs.EntryRows.{entry_postings, rows_are, IsEntry, AreEntries, entries_are}

-- ---- names that differ

pub any_at : (f : List ℕ) (fs : List (List ℕ)) (j : ℕ) → j < length fs → f ≡ get_or fs j [] → list_any (bytes_eq f) fs ≡ true
any_at f [] j lt e = absurd (omega arith)
any_at f (g ∷ fs) zero lt e = or_left _ _ (bytes_same f g e)
any_at f (g ∷ fs) (suc j) lt e = or_right (bytes_eq f g) (list_any (bytes_eq f) fs) (any_at f fs j (omega arith) e)

not_any : (b : Bool) → not b ≡ true → b ≡ true → true ≡ false
not_any true h k = sym h
not_any false h k = sym k

pub differ_index : (fs : List (List ℕ)) (i j : ℕ) → differ fs ≡ true → i < length fs → j < length fs → get_or fs i [] ≡ get_or fs j [] → i ≡ j
differ_index [] i j d a b e = absurd (omega (arith, a))
differ_index (f ∷ fs) zero zero d a b e = refl
differ_index (f ∷ fs) zero (suc j) d a b e =
    let ds = and_parts (not (list_any (bytes_eq f) fs)) (differ fs) d in
    absurd (true≢false (not_any _ ds.0 (any_at f fs j (omega arith) e)))
differ_index (f ∷ fs) (suc i) zero d a b e =
    let ds = and_parts (not (list_any (bytes_eq f) fs)) (differ fs) d in
    absurd (true≢false (not_any _ ds.0 (any_at f fs i (omega arith) (sym e))))
differ_index (f ∷ fs) (suc i) (suc j) d a b e =
    let ds = and_parts (not (list_any (bytes_eq f) fs)) (differ fs) d in
    ap suc (differ_index fs i j ds.1 (omega arith) (omega arith) e)

-- ---- one entry at most

abbrev option_list : Option TermEntry → List TermEntry
option_list None = []
option_list (Some e) = e ∷ []

pub before_by : (p q : NumberedTerm) (b : Bool) → nat_lt p.field q.field ≡ b → p.field ≡ q.field → is_before p q ≡ true → Below p.term q.term
before_by p q true e same h = let lt : p.field < q.field = grind (arith, nat_tests) in absurd (omega arith)
before_by p q false e same h = let own = rw e at h in (and_parts (p.field == q.field) (is_lt (slice_cmp nat_cmp p.term q.term)) own).1

module _ (field term : List ℕ) (fields : List (List ℕ)) (size : ℕ) (different : differ fields ≡ true) where
  other_by : (p q : NumberedTerm) (b : Bool) → is_entry field term (named fields q) ≡ b → p.field < length fields → q.field < length fields → is_before p q ≡ true
      → is_entry field term (named fields p) ≡ true → b ≡ false
  other_by p q false e a c before h = refl
  other_by p q true e a c before h =
      let ps = and_parts (bytes_eq (get_or fields p.field []) field) (bytes_eq p.term term) h in
      let qs = and_parts (bytes_eq (get_or fields q.field []) field) (bytes_eq q.term term) e in
      let names : get_or fields p.field [] ≡ get_or fields q.field [] = same_bytes _ _ ps.0 ∙ sym (same_bytes _ _ qs.0) in
      let terms : p.term ≡ q.term = same_bytes _ _ ps.1 ∙ sym (same_bytes _ _ qs.1) in
      let same = differ_index fields p.field q.field different a c names in
      not_below_itself q.term (subst (λ x. Below x q.term) terms (before_by p q _ refl same before))

  pub field_of : (p : NumberedTerm) → is_place size (length fields) p ≡ true → p.field < length fields
  field_of p h =
      let outer = and_parts (nat_lt p.field (length fields) && nat_le p.from p.to) (nat_le p.to size) h in
      let inner = and_parts (nat_lt p.field (length fields)) (nat_le p.from p.to) outer.0 in
      let a = inner.0 in
      grind (arith, nat_tests)

  none_after : (p : NumberedTerm) (ps : List NumberedTerm) → p.field < length fields → list_all (is_place size (length fields)) ps ≡ true → list_all (is_before p) ps ≡ true
      → is_entry field term (named fields p) ≡ true → filter (is_entry field term) (map (named fields) ps) ≡ []
  none_after p [] a inside before h = refl
  none_after p (q ∷ ps) a inside before h =
      let is = and_parts (is_place size (length fields) q) (list_all (is_place size (length fields)) ps) inside in
      let bs = and_parts (is_before p q) (list_all (is_before p) ps) before in
      let own = other_by p q _ refl a (field_of q is.0) bs.0 h in
      rw own (none_after p ps a is.1 bs.1 h)

  only_by : (p : NumberedTerm) (ps : List NumberedTerm) (b : Bool) → is_entry field term (named fields p) ≡ b → p.field < length fields → list_all (is_place size (length fields)) ps ≡ true
      → list_all (is_before p) ps ≡ true → filter (is_entry field term) (map (named fields) ps) ≡ option_list (entry_of field term (map (named fields) ps))
      → filter (is_entry field term) (map (named fields) (p ∷ ps)) ≡ option_list (entry_of field term (map (named fields) (p ∷ ps)))
  only_by p ps true e a inside before ih = let none = none_after p ps a inside before e in rw (e, none) refl
  only_by p ps false e a inside before ih = rw e ih

  pub only : (ps : List NumberedTerm) → list_all (is_place size (length fields)) ps ≡ true → rise ps ≡ true
      → filter (is_entry field term) (map (named fields) ps) ≡ option_list (entry_of field term (map (named fields) ps))
  only [] inside rising = refl
  only (p ∷ ps) inside rising =
      let is = and_parts (is_place size (length fields) p) (list_all (is_place size (length fields)) ps) inside in
      let rs = and_parts (list_all (is_before p) ps) (rise ps) rising in
      only_by p ps _ refl (field_of p is.0) is.1 rs.0 (only ps is.1 rs.1)

-- ---- what was found

pub not_found : (o : Option TermEntry) → None ≡ option_map entry_places o → o ≡ None
not_found None h = refl
not_found (Some e) h = absurd (cc)

first_place : Option (ℕ × ℕ) → ℕ
first_place None = 0
first_place (Some p) = p.0

second_place : Option (ℕ × ℕ) → ℕ
second_place None = 0
second_place (Some p) = p.1

pub found_entry : (o : Option TermEntry) (from to : ℕ) → Some (from, to) ≡ option_map entry_places o → (e : TermEntry) × (o ≡ Some e) × (e.from ≡ from) × (e.to ≡ to)
unfolding first_place second_place
found_entry None from to h = absurd (cc)
found_entry (Some e) from to h = (e, refl, sym (ap first_place h), sym (ap second_place h))

among_by : (docs : ℕ) (text field term : List ℕ) (x e : TermEntry) (es : List TermEntry) (b : Bool) → is_entry field term x ≡ b → entry_of field term (x ∷ es) ≡ Some e
    → IsEntry docs text x → (entry_of field term es ≡ Some e → IsEntry docs text e) → IsEntry docs text e
among_by docs text field term x e es true is h own rest = let found : Some x ≡ Some e = rw is at h in let same : x ≡ e = cc in subst (IsEntry docs text) same own
among_by docs text field term x e es false is h own rest = let found = rw is at h in rest found

among : (docs : ℕ) (text field term : List ℕ) (es : List TermEntry) (e : TermEntry) → entry_of field term es ≡ Some e → AreEntries docs text es → IsEntry docs text e
among docs text field term [] e h all = absurd (cc)
among docs text field term (x ∷ es) e h all = among_by docs text field term x e es _ refl h all.0 (λ k. among docs text field term es e k all.1)

module _ (bytes : ℕ → List ℕ) (t : TermTable) (docs : ℕ) (w : Window) (fields : List (List ℕ)) (names : List ℕ) (places : List Place) (field term : List ℕ)
    (is : record { docs = docs; input = w; terms = map (named fields) (map (numbered names) places) } ≡ t) (kept : ArePlaces w.size fields names places) (table : IsTableOf t (window_bytes bytes t.input)) where
  abbrev text : List ℕ
  text = window_bytes bytes t.input

  only_one : filter (is_entry field term) (terms_of text) ≡ option_list (entry_of field term t.terms)
  only_one =
      let terms : map (named fields) (map (numbered names) places) ≡ t.terms = ap (λ (x : TermTable). x.terms) is in
      ap (filter (is_entry field term)) (sym table.terms ∙ sym terms) ∙ only field term fields w.size kept.different (map (numbered names) places) kept.inside kept.rising
      ∙ ap (λ es. option_list (entry_of field term es)) terms

  its_postings : (rows : List Row) → postings text t.docs ≡ Ok rows → (o : Option TermEntry) → entry_of field term t.terms ≡ o
      → postings_with field term rows ≡ flat_map (entry_postings text) (option_list o)
  its_postings rows h o e = rows_are t.docs text field term rows h ∙ ap (flat_map (entry_postings text)) (only_one ∙ ap option_list e)

  pub unknown_told : (rows : List Row) → postings text t.docs ≡ Ok rows → None ≡ option_map entry_places (entry_of field term t.terms) → [] ≡ postings_with field term rows
  unknown_told rows h none = sym (its_postings rows h None (not_found _ none))

  module _ (from to : ℕ) (part : Window) (order : from ≤ to) (inside : to ≤ t.input.size) (part_is : part ≡ part_of w from (to - from))
      (found : Some (from, to) ≡ option_map entry_places (entry_of field term t.terms)) where
    part_bytes : window_bytes bytes part ≡ slice_of from (to - from) text
    part_bytes =
        let size : w.size ≡ t.input.size = ap (λ (x : TermTable). x.input.size) is in
        let within : from + (to - from) ≤ w.size = omega (arith, order, inside, size) in
        ap (window_bytes bytes) part_is ∙ sym (slice_of_window w.start w.size from (to - from) (bytes w.file) within) ∙ ap (λ (x : TermTable). slice_of from (to - from) (window_bytes bytes x.input)) is

    pub known_told : (rows : List Row) → postings text t.docs ≡ Ok rows → listed (line_forms (cut (window_bytes bytes part)).lines) ≡ postings_with field term rows
    known_told rows h =
        let (e, some, f, g) = found_entry (entry_of field term t.terms) from to found in
        ap (λ x. listed (line_forms (cut x).lines)) part_bytes
        ∙ sym (ap₂ (λ a b. listed (line_forms (cut (slice_of a (b - a) text)).lines)) f g)
        ∙ sym (append-nil (entry_postings text e))
        ∙ sym (its_postings rows h (Some e) some)

    pub known_entry : IsEntryText docs 0 (cut (window_bytes bytes part))
    known_entry =
        let (e, some, f, g) = found_entry (entry_of field term t.terms) from to found in
        let (rows, h) = table.rows in
        let all : AreEntries t.docs text t.terms = subst (AreEntries t.docs text) (sym table.terms) (entries_are t.docs text rows h) in
        let own : IsEntry t.docs text e = among t.docs text field term t.terms e some all in
        let here : slice_of e.from (e.to - e.from) text ≡ window_bytes bytes part = ap₂ (λ a b. slice_of a (b - a) text) f g ∙ sym part_bytes in
        subst (λ d. IsEntryText d 0 (cut (window_bytes bytes part))) (sym (ap (λ (x : TermTable). x.docs) is)) (subst (λ x. IsEntryText t.docs 0 (cut x)) here own)
