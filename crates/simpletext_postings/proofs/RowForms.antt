-- The lines of rows: each may stand after those before it, and together they have the rows.
use Rattle.std.proofs.Common.{arith, ◌≡◌, ℕ, suc, ◌+◌, ◌<◌, length, List, [], ◌∷◌, ◌++◌, map, Option, Some, None, Ok, sym, Bool, true, false, not, refl, ap, ap₂, ◌∙◌, subst, true≢false}
use Rattle.std.specs.Prelude.{◌&&◌, ◌||◌, nat_lt, nat_le}
use Rattle.std.specs.List.{list_all, list_any}
use Rattle.std.specs.Str.{bytes_eq}
use Rattle.std.proofs.Math.Logic.{◌⊎◌, inl, inr}
use Rattle.std.proofs.lemmas.Bool.{and_parts, or_parts, or_right, eq-eqb}
use Rattle.std.proofs.lemmas.Bool.Decides.{nat_tests}
use Rattle.std.proofs.lemmas.List.Folds.{list_any-append}
use Rattle.text_lines.specs.Lines.{nothing}
use Rattle.text_lines.specs.Words.{is_above}
use Rattle.simpletext_postings.specs.Postings.{fields, last_field, last_term, last_doc, last_position, position_count, frequency, is_not_below, is_term_above, at_start, at_field_or_term, at_term, at_freq, at_checksum, ends_position, ends_entry, may_begin_field, is_allowed, is_passed, own_positions, row, rows_after, forms_after}
use Rattle.simpletext_postings.specs.Rows.{is_not_falling, is_small, are_positions, fits_line, is_row, has_field, may_follow, each_follows, are_rows}
use Rattle.simpletext_postings.specs.Written.{is_in_field, is_in_term}
use Rattle.simpletext_postings.specs.Forms.{Form}
use Rattle.simpletext_postings.specs.Forms.{Field, Term, Doc, Freq, Pos, End, Checksum}
use Rattle.simpletext_postings.specs.declared.rows.Row.{Row}
use Rattle.simpletext_postings.proofs.LineTexts.{line, IsRead, field_read, term_read, doc_read, freq_read, pos_read, end_read, checksum_read}
use Rattle.simpletext_postings.proofs.Rising.{Below, later, same_bytes, bytes_same, not_below_itself}

-- ---- the forms of rows

abbrev pub field_then : Bool → Row → List Form → List Form
field_then true r rest = rest
field_then false r rest = Field r.field ∷ rest

abbrev pub term_then : Bool → Row → List Form → List Form
term_then true r rest = rest
term_then false r rest = Term r.term ∷ rest

abbrev pub positions_then : List ℕ → List Form → List Form
positions_then [] rest = rest
positions_then (p ∷ ps) rest = Pos p ∷ positions_then ps rest

abbrev pub counted_then : List ℕ → List Form → List Form
counted_then [] rest = rest
counted_then (p ∷ ps) rest = Freq (length (p ∷ ps)) ∷ positions_then (p ∷ ps) rest

abbrev pub row_then : Option Row → Row → List Form → List Form
row_then before r rest = field_then (is_in_field before r) r (term_then (is_in_term before r) r (Doc r.doc ∷ counted_then r.positions rest))

abbrev pub forms_from : Option Row → List Row → List Form
forms_from before [] = End ∷ Checksum ∷ []
forms_from before (r ∷ rows) = row_then before r (forms_from (Some r) rows)

-- ---- lines that may stand after those in `past`, up to the checksum line

abbrev pub Lawful : ℕ → List Form → List Form → Type 0
Lawful docs past [] = at_checksum past ≡ true
Lawful docs past (f ∷ fs) = IsRead f × (is_passed past f ≡ false) × (is_allowed docs past f ≡ true) × Lawful docs (f ∷ past) fs

pub all_read : (docs : ℕ) (past : List Form) (at : ℕ) (fs : List Form) → Lawful docs past fs
    → forms_after docs past at (map line fs) nothing.tail ≡ Ok fs
all_read docs past at [] h = rw h refl
all_read docs past at (f ∷ fs) h =
    let later = all_read docs (f ∷ past) (at + (line f).size) fs h.3 in
    rw (h.0.short, h.0.form, h.1, h.2, later) refl

-- these lines may stand after those in `past`, and begin these rows and no position of the row before
pub record Good (docs : ℕ) (past fs : List Form) (rows : List Row) : Type 0 where
  pub lawful : Lawful docs past fs
  pub begins : rows_after past fs ≡ rows
  pub none : own_positions fs ≡ []

-- ---- positions

abbrev positions_past : List ℕ → List Form → List Form
positions_past [] past = past
positions_past (p ∷ ps) past = positions_past ps (Pos p ∷ past)

abbrev counted_past : List ℕ → List Form → List Form
counted_past [] past = past
counted_past (p ∷ ps) past = positions_past (p ∷ ps) (Freq (length (p ∷ ps)) ∷ past)

-- as many positions as the frequency end an entry
positions_end : (ps : List ℕ) (p : ℕ) (past : List Form) → position_count past + 1 + length ps ≡ frequency past
    → ends_entry (positions_past ps (Pos p ∷ past)) ≡ true
positions_end [] p past h = eq-eqb (position_count past + 1) (frequency past) (omega arith)
positions_end (q ∷ ps) p past h = positions_end ps q (Pos p ∷ past) (omega arith)

counted_end : (ps : List ℕ) (d : ℕ) (past : List Form) → ends_entry (counted_past ps (Doc d ∷ past)) ≡ true
counted_end [] d past = refl
counted_end (p ∷ ps) d past = positions_end ps p (Freq (length (p ∷ ps)) ∷ Doc d ∷ past) (omega arith)

-- the same look back past an entry
record Same (past now : List Form) : Type 0 where
  names : fields now ≡ fields past
  field : last_field now ≡ last_field past
  term : last_term now ≡ last_term past
  doc : last_doc now ≡ last_doc past

positions_same : (ps : List ℕ) (past : List Form) → Same past (positions_past ps past)
positions_same [] past = record { names = refl; field = refl; term = refl; doc = refl }
positions_same (p ∷ ps) past =
    let s = positions_same ps (Pos p ∷ past) in
    record { names = s.names; field = s.field; term = s.term; doc = s.doc }

counted_same : (ps : List ℕ) (past : List Form) → Same past (counted_past ps past)
counted_same [] past = record { names = refl; field = refl; term = refl; doc = refl }
counted_same (p ∷ ps) past =
    let s = positions_same (p ∷ ps) (Freq (length (p ∷ ps)) ∷ past) in
    record { names = s.names; field = s.field; term = s.term; doc = s.doc }

-- what the lines of a document's positions say
record Counted (docs : ℕ) (past fs : List Form) (ps : List ℕ) (rows : List Row) : Type 0 where
  lawful : Lawful docs past fs
  begins : rows_after past fs ≡ rows
  own : own_positions fs ≡ ps

module _ (docs : ℕ) (rest : List Form) (rows : List Row) where
  begin_rest : (past : List Form) → Good docs past rest rows → Counted docs past rest [] rows
  begin_rest past g = record { lawful = g.lawful; begins = g.begins; own = g.none }

  position_allowed : (past : List Form) (p k : ℕ) → (at_freq past || ends_position past) ≡ true → position_count past + suc k ≡ frequency past
      → is_not_below (last_position past) p ≡ true → is_allowed docs past (Pos p) ≡ true
  position_allowed past p k at count low =
      let fewer : nat_lt (position_count past) (frequency past) ≡ true = grind (arith, nat_tests) in
      rw (at, fewer, low) refl

  counted_positions : (ps : List ℕ) (past : List Form) → list_all is_small ps ≡ true → is_not_falling ps ≡ true
      → list_all (is_not_below (last_position past)) ps ≡ true → (at_freq past || ends_position past) ≡ true
      → position_count past + length ps ≡ frequency past → Good docs (positions_past ps past) rest rows
      → Counted docs past (positions_then ps rest) ps rows
  counted_positions [] past s f l at count g = begin_rest past g
  counted_positions (p ∷ ps) past s f l at count g =
      let small = and_parts (is_small p) (list_all is_small ps) s in
      let rise = and_parts (list_all (nat_le p) ps) (is_not_falling ps) f in
      let low = and_parts (is_not_below (last_position past) p) (list_all (is_not_below (last_position past)) ps) l in
      let later = counted_positions ps (Pos p ∷ past) small.1 rise.1 rise.0 (or_right (at_freq (Pos p ∷ past)) true refl) (omega arith) g in
      record {
        lawful = (pos_read p small.0, refl, position_allowed past p (length ps) at count low.0, later.lawful);
        begins = later.begins;
        own = ap (λ qs. p ∷ qs) later.own;
      }

  first_position : (ps : List ℕ) → list_all (is_not_below None) ps ≡ true
  first_position [] = refl
  first_position (p ∷ ps) = first_position ps

  counted : (ps : List ℕ) (d : ℕ) (past : List Form) → are_positions ps ≡ true → Good docs (counted_past ps (Doc d ∷ past)) rest rows
      → Counted docs (Doc d ∷ past) (counted_then ps rest) ps rows
  counted [] d past h g = begin_rest (Doc d ∷ past) g
  counted (p ∷ ps) d past h g =
      let parts = and_parts (is_small (length (p ∷ ps)) && list_all is_small (p ∷ ps)) (is_not_falling (p ∷ ps)) h in
      let sizes = and_parts (is_small (length (p ∷ ps))) (list_all is_small (p ∷ ps)) parts.0 in
      let later = counted_positions (p ∷ ps) (Freq (length (p ∷ ps)) ∷ Doc d ∷ past) sizes.1 parts.1 (first_position (p ∷ ps)) refl (omega arith) g in
      let some : nat_lt 0 (length (p ∷ ps)) ≡ true = grind (arith, nat_tests) in
      record {
        lawful = (freq_read (length (p ∷ ps)) sizes.0, refl, some, later.lawful);
        begins = later.begins;
        own = later.own;
      }

-- ---- one row

-- what a row keeps by itself
pub record Kept (docs : ℕ) (r : Row) : Type 0 where
  pub inside : nat_lt r.doc docs ≡ true
  pub small : is_small r.doc ≡ true
  pub positions : are_positions r.positions ≡ true
  pub field : fits_line 6 r.field ≡ true
  pub term : fits_line 7 r.term ≡ true

pub kept : (docs : ℕ) (r : Row) → is_row docs r ≡ true → Kept docs r
kept docs r h =
    let a = and_parts (nat_lt r.doc docs && is_small r.doc && are_positions r.positions && fits_line 6 r.field) (fits_line 7 r.term) h in
    let b = and_parts (nat_lt r.doc docs && is_small r.doc && are_positions r.positions) (fits_line 6 r.field) a.0 in
    let c = and_parts (nat_lt r.doc docs && is_small r.doc) (are_positions r.positions) b.0 in
    let d = and_parts (nat_lt r.doc docs) (is_small r.doc) c.0 in
    record { inside = d.0; small = d.1; positions = c.1; field = b.1; term = a.1 }

-- what the lines of some rows, the newest first, leave to look back upon
record After (past : List Form) (p : Row) (seen : List Row) : Type 0 where
  ends : ends_entry past ≡ true
  field : last_field past ≡ p.field
  term : last_term past ≡ Some p.term
  doc : last_doc past ≡ Some p.doc
  new : (name : List ℕ) → list_any (has_field name) (p ∷ seen) ≡ false → list_any (bytes_eq name) (fields past) ≡ false

module _ (docs : ℕ) (r : Row) (own : Kept docs r) (seen rows : List Row) (rest : List Form)
    (go : (past : List Form) → After past r seen → Good docs past rest rows) where
  -- the document line of a row, and its positions
  module _ (past : List Form) (field : last_field past ≡ r.field) (term : last_term past ≡ Some r.term)
      (new : (name : List ℕ) → list_any (has_field name) (r ∷ seen) ≡ false → list_any (bytes_eq name) (fields past) ≡ false) where
    entry_past : List Form
    entry_past = counted_past r.positions (Doc r.doc ∷ past)

    after_entry : After entry_past r seen
    unfolding entry_past
    after_entry =
        let s = counted_same r.positions (Doc r.doc ∷ past) in
        record {
          ends = counted_end r.positions r.doc past;
          field = s.field ∙ field;
          term = s.term ∙ term;
          doc = s.doc;
          new = λ name h. ap (list_any (bytes_eq name)) s.names ∙ new name h;
        }

    row_is : (ps : List ℕ) → ps ≡ r.positions → row past r.doc ps ≡ r
    row_is ps e = rw (field, term, e) refl

    doc_good : (at_term past || ends_entry past) ≡ true → is_above (last_doc past) r.doc ≡ true
        → Good docs past (Doc r.doc ∷ counted_then r.positions rest) (r ∷ rows)
    unfolding entry_past
    doc_good at up =
        let later = counted docs rest rows r.positions r.doc past own.positions (go entry_past after_entry) in
        record {
          lawful = (doc_read r.doc own.small, refl, rw (at, own.inside, up) refl, later.lawful);
          begins = ap₂ (λ (x : Row) (xs : List Row). x ∷ xs) (row_is (own_positions (counted_then r.positions rest)) later.own) later.begins;
          none = refl;
        }

  -- a term line before it
  term_good : (past : List Form) → last_field past ≡ r.field
      → ((name : List ℕ) → list_any (has_field name) (r ∷ seen) ≡ false → list_any (bytes_eq name) (fields past) ≡ false)
      → (at_field_or_term past || ends_entry past) ≡ true → is_term_above (last_term past) r.term ≡ true
      → Good docs past (Term r.term ∷ Doc r.doc ∷ counted_then r.positions rest) (r ∷ rows)
  term_good past field new at up =
      let later = doc_good (Term r.term ∷ past) field refl new refl refl in
      record {
        lawful = (term_read r.term own.term, refl, rw (at, up) refl, later.lawful);
        begins = later.begins;
        none = refl;
      }

  -- a field line before that
  field_good : (past : List Form)
      → ((name : List ℕ) → list_any (has_field name) seen ≡ false → list_any (bytes_eq name) (fields past) ≡ false)
      → may_begin_field past ≡ true → list_any (bytes_eq r.field) (fields past) ≡ false
      → Good docs past (Field r.field ∷ Term r.term ∷ Doc r.doc ∷ counted_then r.positions rest) (r ∷ rows)
  field_good past new at other =
      let later = term_good (Field r.field ∷ past) refl (more_new past new) refl refl in
      record {
        lawful = (field_read r.field own.field, refl, rw (at, other) refl, later.lawful);
        begins = later.begins;
        none = refl;
      }
    where
      not_named : (name : List ℕ) → bytes_eq r.field name ≡ false → (b : Bool) → bytes_eq name r.field ≡ b → b ≡ false
      not_named name h true e = sym (bytes_same r.field name (sym (same_bytes name r.field e))) ∙ h
      not_named name h false e = refl

      more_new : (past : List Form) → ((name : List ℕ) → list_any (has_field name) seen ≡ false → list_any (bytes_eq name) (fields past) ≡ false)
          → (name : List ℕ) → list_any (has_field name) (r ∷ seen) ≡ false → list_any (bytes_eq name) (fields past ++ r.field ∷ []) ≡ false
      more_new past new name h =
          let parts = or_parts (bytes_eq r.field name) (list_any (has_field name) seen) h in
          rw (list_any-append (bytes_eq name) (fields past) (r.field ∷ []), new name parts.1, not_named name parts.0 _ refl) refl

-- ---- a row after others

module _ (docs : ℕ) (r : Row) (own : Kept docs r) (rows : List Row) (rest : List Form) where
  first_row : ((past : List Form) → After past r [] → Good docs past rest rows)
      → Good docs [] (row_then None r rest) (r ∷ rows)
  first_row go = field_good docs r own [] rows rest go [] (λ name h. refl) refl refl

  module _ (p : Row) (seen : List Row) (past : List Form) (a : After past p seen)
      (go : (past : List Form) → After past r (p ∷ seen) → Good docs past rest rows) where
    still_new : (name : List ℕ) → list_any (has_field name) (r ∷ p ∷ seen) ≡ false → list_any (bytes_eq name) (fields past) ≡ false
    still_new name h = a.new name (or_parts (bytes_eq r.field name) (list_any (has_field name) (p ∷ seen)) h).1

    same_term : (p.field ≡ r.field) → (p.term ≡ r.term) → ((p.term ≡ r.term) × (p.doc < r.doc)) ⊎ Below p.term r.term → p.doc < r.doc
    same_term f t (inl h) = h.1
    same_term f t (inr h) = absurd (true≢false (not_below_itself r.term (subst (λ s. Below s r.term) t h)))

    other_term : bytes_eq p.term r.term ≡ false → ((p.term ≡ r.term) × (p.doc < r.doc)) ⊎ Below p.term r.term → Below p.term r.term
    other_term t (inl h) = absurd (true≢false (sym (bytes_same p.term r.term h.0) ∙ t))
    other_term t (inr h) = h

    next_row : (field term : Bool) → bytes_eq p.field r.field ≡ field → bytes_eq p.term r.term ≡ term → may_follow (p ∷ seen) r ≡ true
        → Good docs past (field_then field r (term_then (field && term) r (Doc r.doc ∷ counted_then r.positions rest))) (r ∷ rows)
    next_row true true f t h =
        let same = same_bytes p.field r.field f in
        let up = same_term same (same_bytes p.term r.term t) (later seen p r h same) in
        let above : nat_lt p.doc r.doc ≡ true = grind (arith, nat_tests) in
        doc_good docs r own (p ∷ seen) rows rest go past (a.field ∙ same) (a.term ∙ ap (λ (s : List ℕ). Some s) (same_bytes p.term r.term t)) still_new
        (or_right (at_term past) (ends_entry past) a.ends) (rw a.doc above)
    next_row true false f t h =
        let same = same_bytes p.field r.field f in
        let up = other_term t (later seen p r h same) in
        term_good docs r own (p ∷ seen) rows rest go past (a.field ∙ same) still_new
        (or_right (at_field_or_term past) (ends_entry past) a.ends) (rw a.term up)
    next_row false term f t h =
        let other : list_any (has_field r.field) (p ∷ seen) ≡ false = rw f (not_some _ (rw f at h)) in
        field_good docs r own (p ∷ seen) rows rest go past a.new
        (or_right (at_start past || at_field_or_term past) (ends_entry past) a.ends) (a.new r.field other)
      where
        not_some : (b : Bool) → not b ≡ true → b ≡ false
        not_some true h = sym h
        not_some false h = refl

-- ---- all rows

end_good : (docs : ℕ) (past : List Form) → may_begin_field past ≡ true → Good docs past (End ∷ Checksum ∷ []) []
end_good docs past h = record { lawful = (end_read, refl, h, (checksum_read, refl, refl, refl)); begins = refl; none = refl }

rows_good : (docs : ℕ) (p : Row) (seen rows : List Row) → each_follows (p ∷ seen) rows ≡ true → list_all (is_row docs) rows ≡ true
    → (past : List Form) → After past p seen → Good docs past (forms_from (Some p) rows) rows
rows_good docs p seen [] h all past a = end_good docs past (or_right (at_start past || at_field_or_term past) (ends_entry past) a.ends)
rows_good docs p seen (r ∷ rows) h all past a =
    let parts = and_parts (may_follow (p ∷ seen) r) (each_follows (r ∷ p ∷ seen) rows) h in
    let own = and_parts (is_row docs r) (list_all (is_row docs) rows) all in
    next_row docs r (kept docs r own.0) rows (forms_from (Some r) rows) p seen past a (rows_good docs r (p ∷ seen) rows parts.1 own.1) _ _ refl refl parts.0

pub all_good : (docs : ℕ) (rows : List Row) → are_rows docs rows ≡ true → Good docs [] (forms_from None rows) rows
all_good docs [] h = end_good docs [] refl
all_good docs (r ∷ rows) h =
    let parts = and_parts (list_all (is_row docs) (r ∷ rows)) (each_follows [] (r ∷ rows)) h in
    let own = and_parts (is_row docs r) (list_all (is_row docs) rows) parts.0 in
    first_row docs r (kept docs r own.0) rows (forms_from (Some r) rows) (rows_good docs r [] rows parts.1 own.1)
