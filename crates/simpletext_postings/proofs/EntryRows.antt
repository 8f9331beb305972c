-- The rows of a field and a term are those of the lines of its entries.
use Rattle.std.proofs.Common.{arith, ◌≡◌, ℕ, ◌+◌, ◌-◌, ◌≤◌, drop, List, [], ◌∷◌, ◌++◌, append-nil, Option, Some, None, sym, Bool, true, false, refl, ap, ap₂, ◌∙◌, subst, true≢false}
use Rattle.std.specs.Prelude.{◌==◌, ◌&&◌, ◌||◌, is_some, filter, nat_lt, nat_le, if◌then◌else◌, Result, Ok, Err}
use Rattle.std.specs.List.{list_all, flat_map}
use Rattle.std.specs.Str.{bytes_eq}
use Rattle.std.proofs.Math.Bool.{and-true, and-false}
use Rattle.std.proofs.Math.Logic.{◌⊎◌, inl, inr}
use Rattle.std.proofs.lemmas.Bool.{and_parts, and_from}
use Rattle.std.proofs.lemmas.Bool.Decides.{nat_tests}
use Rattle.directory_input.specs.Reads.{slice_of}
use Rattle.directory_input.proofs.Slices.{drop_drop}
use Rattle.text_lines.specs.Lines.{Taken, Cut, cut}
use Rattle.text_lines.specs.Words.{is_above}
use Rattle.simpletext_postings.specs.Postings.{form_of, last_field, last_term, last_doc, at_term, at_checksum, ends_entry, is_allowed, is_passed, own_positions, row, rows_after, forms_after, in_front, rows_of, postings}
use Rattle.simpletext_postings.specs.Rows.{is_of}
use Rattle.simpletext_postings.specs.Terms.{TermEntry, ends_entries, entries_end, field_after, term_at, terms_after, terms_of, is_entry, posting_of, postings_with}
use Rattle.simpletext_postings.specs.Entries.{positions_here, listed, rises_from, line_forms, is_short, IsEntryText}
use Rattle.simpletext_postings.specs.Forms.{Form}
use Rattle.simpletext_postings.specs.Forms.{Field, Term, Doc, Freq, Pos, StartOffset, EndOffset, Payload, End, Checksum, Indented, Unknown}
use Rattle.simpletext_postings.specs.declared.rows.Row.{Row}
use Rattle.simpletext_postings.specs.declared.posting.Posting.{Posting}
use Rattle.simpletext_postings.proofs.Slices.{first_line, run, entries_cut}

-- ---- lines that are allowed, each with what it is

abbrev Walk : ℕ → List Form → List Taken → List Form → Type 0
Walk docs past [] fs = fs ≡ []
Walk docs past (l ∷ ls) fs =
    (l.size ≤ 16777216)
    × (((form_of l.content ≡ Indented) × (is_passed past Indented ≡ true) × Walk docs past ls fs)
    ⊎ ((later : List Form) × (fs ≡ form_of l.content ∷ later) × (is_allowed docs past (form_of l.content) ≡ true) × Walk docs (form_of l.content ∷ past) ls later))

ok_end : (b : Bool) (at : ℕ) (fs : List Form) → (if b then Ok [] else Err at) ≡ Ok fs → fs ≡ []
ok_end true at fs h = cc
ok_end false at fs h = absurd (cc)

passed_form : (past : List Form) (f : Form) → is_passed past f ≡ true → f ≡ Indented
passed_form past Indented h = refl
passed_form past (Field x) h = absurd (true≢false (sym h))
passed_form past (Term x) h = absurd (true≢false (sym h))
passed_form past (Doc x) h = absurd (true≢false (sym h))
passed_form past (Freq x) h = absurd (true≢false (sym h))
passed_form past (Pos x) h = absurd (true≢false (sym h))
passed_form past StartOffset h = absurd (true≢false (sym h))
passed_form past EndOffset h = absurd (true≢false (sym h))
passed_form past Payload h = absurd (true≢false (sym h))
passed_form past End h = absurd (true≢false (sym h))
passed_form past Checksum h = absurd (true≢false (sym h))
passed_form past Unknown h = absurd (true≢false (sym h))

front_ok : (f : Form) (r : Result (List Form) ℕ) (fs : List Form) → in_front f r ≡ Ok fs → (later : List Form) × (fs ≡ f ∷ later) × (r ≡ Ok later)
front_ok f (Ok later) fs h = (later, cc, refl)
front_ok f (Err at) fs h = absurd (cc)

walk_by : (docs : ℕ) (past : List Form) (at : ℕ) (l : Taken) (ls : List Taken) (tail : Taken) (fs : List Form) (long passed allowed : Bool)
    → nat_lt 16777216 l.size ≡ long → is_passed past (form_of l.content) ≡ passed → is_allowed docs past (form_of l.content) ≡ allowed
    → ((past : List Form) (fs : List Form) → forms_after docs past (at + l.size) ls tail ≡ Ok fs → Walk docs past ls fs)
    → (if long then Err at else if passed then forms_after docs past (at + l.size) ls tail
    else if allowed then in_front (form_of l.content) (forms_after docs (form_of l.content ∷ past) (at + l.size) ls tail) else Err at) ≡ Ok fs
    → Walk docs past (l ∷ ls) fs
walk_by docs past at l ls tail fs true p a le pe ae ih k = absurd (cc)
walk_by docs past at l ls tail fs false true a le pe ae ih k =
    let e = passed_form past (form_of l.content) pe in
    let own : is_passed past Indented ≡ true = subst (λ x. is_passed past x ≡ true) e pe in
    (grind (arith, nat_tests), inl (e, own, ih past fs k))
walk_by docs past at l ls tail fs false false true le pe ae ih k =
    let (later, is, rest) = front_ok (form_of l.content) (forms_after docs (form_of l.content ∷ past) (at + l.size) ls tail) fs k in
    (grind (arith, nat_tests), inr (later, is, ae, ih (form_of l.content ∷ past) later rest))
walk_by docs past at l ls tail fs false false false le pe ae ih k = absurd (cc)

walk : (docs : ℕ) (past : List Form) (at : ℕ) (ls : List Taken) (tail : Taken) (fs : List Form) → forms_after docs past at ls tail ≡ Ok fs → Walk docs past ls fs
walk docs past at [] tail fs h = ok_end ((tail.size == 0) && at_checksum past) at fs h
walk docs past at (l ∷ ls) tail fs h = walk_by docs past at l ls tail fs _ _ _ refl refl refl (λ p gs. walk docs p (at + l.size) ls tail gs) h

-- ---- behind the end

refused_sum : (docs : ℕ) (past : List Form) (f : Form) → is_allowed docs (Checksum ∷ past) f ≡ false
refused_sum docs past (Field x) = refl
refused_sum docs past (Term x) = refl
refused_sum docs past (Doc x) = refl
refused_sum docs past (Freq x) = refl
refused_sum docs past (Pos x) = refl
refused_sum docs past StartOffset = refl
refused_sum docs past EndOffset = refl
refused_sum docs past Payload = refl
refused_sum docs past End = refl
refused_sum docs past Checksum = refl
refused_sum docs past Indented = refl
refused_sum docs past Unknown = refl

after_sum : (docs : ℕ) (past : List Form) (ls : List Taken) (fs : List Form) → Walk docs (Checksum ∷ past) ls fs → (fs ≡ []) × (ls ≡ [])
after_sum docs past [] fs w = (w, refl)
after_sum docs past (l ∷ ls) fs (_, inl (_, p, _)) = absurd (true≢false (sym p ∙ and-false (is_some (last_term past) && true)))
after_sum docs past (l ∷ ls) fs (_, inr (_, _, a, _)) = absurd (true≢false (sym a ∙ refused_sum docs past (form_of l.content)))

end_form : (docs : ℕ) (past : List Form) (f : Form) → is_allowed docs (End ∷ past) f ≡ true → f ≡ Checksum
end_form docs past Checksum h = refl
end_form docs past (Field x) h = absurd (true≢false (sym h))
end_form docs past (Term x) h = absurd (true≢false (sym h))
end_form docs past (Doc x) h = absurd (true≢false (sym h))
end_form docs past (Freq x) h = absurd (true≢false (sym h))
end_form docs past (Pos x) h = absurd (true≢false (sym h))
end_form docs past StartOffset h = absurd (true≢false (sym h))
end_form docs past EndOffset h = absurd (true≢false (sym h))
end_form docs past Payload h = absurd (true≢false (sym h))
end_form docs past End h = absurd (true≢false (sym h))
end_form docs past Indented h = absurd (true≢false (sym h))
end_form docs past Unknown h = absurd (true≢false (sym h))

record IsOver (ls : List Taken) (fs : List Form) : Type 0 where
  own : own_positions fs ≡ []
  none : listed (line_forms (run ls)) ≡ []

after_end : (docs : ℕ) (past : List Form) (ls : List Taken) (fs : List Form) → Walk docs (End ∷ past) ls fs → IsOver ls fs
after_end docs past [] fs w = record { own = ap own_positions w; none = refl }
after_end docs past (l ∷ ls) fs (_, inl (_, p, _)) = absurd (true≢false (sym p ∙ and-true (is_some (last_term past) && false) ∙ and-false (is_some (last_term past))))
after_end docs past (l ∷ ls) fs (_, inr (later, is, a, w)) =
    let e = end_form docs past (form_of l.content) a in
    let rest = after_sum docs (End ∷ past) ls later (subst (λ f. Walk docs (f ∷ End ∷ past) ls later) e w) in
    record { own = rw (is, e, rest.0) refl; none = rw (e, rest.1) (rw e refl) }

-- ---- sizes of the lines of entries, and that their documents rise

short_by : (l : Taken) (rest : List Taken) (b : Bool) → l.size ≤ 16777216 → list_all is_short rest ≡ true → list_all is_short (if b then [] else l ∷ rest) ≡ true
short_by l rest true le h = refl
short_by l rest false le h = let own : is_short l ≡ true = grind (arith, nat_tests) in rw own h

run_short : (docs : ℕ) (past : List Form) (ls : List Taken) (fs : List Form) → Walk docs past ls fs → list_all is_short (run ls) ≡ true
run_short docs past [] fs w = refl
run_short docs past (l ∷ ls) fs (le, inl (_, _, w)) = short_by l (run ls) (ends_entries (form_of l.content)) le (run_short docs past ls fs w)
run_short docs past (l ∷ ls) fs (le, inr (later, _, _, w)) = short_by l (run ls) (ends_entries (form_of l.content)) le (run_short docs (form_of l.content ∷ past) ls later w)

abbrev least_of : Option ℕ → ℕ
least_of None = 0
least_of (Some d) = d + 1

least_le : (o : Option ℕ) (d : ℕ) → is_above o d ≡ true → nat_le (least_of o) d ≡ true
least_le None d h = grind (arith, nat_tests)
least_le (Some m) d h = grind (arith, nat_tests)

module _ (docs : ℕ) (past : List Form) (l : Taken) (rest : List Taken) where
  rises_line : (f : Form) → form_of l.content ≡ f → is_allowed docs past f ≡ true → rises_from docs (least_of (last_doc (f ∷ past))) (line_forms rest) ≡ true
      → rises_from docs (least_of (last_doc past)) (line_forms (if ends_entries f then [] else l ∷ rest)) ≡ true
  rises_line (Field x) e a ih = refl
  rises_line (Term x) e a ih = refl
  rises_line End e a ih = refl
  rises_line (Doc d) e a ih =
      let outer = and_parts ((at_term past || ends_entry past) && nat_lt d docs) (is_above (last_doc past) d) a in
      let inner = and_parts (at_term past || ends_entry past) (nat_lt d docs) outer.0 in
      rw e (and_from _ _ (and_from _ _ (least_le (last_doc past) d outer.1) inner.1) ih)
  rises_line (Freq x) e a ih = rw e ih
  rises_line (Pos x) e a ih = rw e ih
  rises_line StartOffset e a ih = rw e ih
  rises_line EndOffset e a ih = rw e ih
  rises_line Payload e a ih = rw e ih
  rises_line Checksum e a ih = rw e ih
  rises_line Indented e a ih = rw e ih
  rises_line Unknown e a ih = rw e ih

  rises_passed : form_of l.content ≡ Indented → rises_from docs (least_of (last_doc past)) (line_forms rest) ≡ true
      → rises_from docs (least_of (last_doc past)) (line_forms (if ends_entries (form_of l.content) then [] else l ∷ rest)) ≡ true
  rises_passed e ih = rw e (rw e ih)

  own_line : (f : Form) (later : List Form) → form_of l.content ≡ f → own_positions later ≡ positions_here (line_forms rest) → (f ≡ End → own_positions later ≡ [])
      → own_positions (f ∷ later) ≡ positions_here (line_forms (if ends_entries f then [] else l ∷ rest))
  own_line (Field x) later e ih end = refl
  own_line (Term x) later e ih end = refl
  own_line End later e ih end = end refl
  own_line (Doc d) later e ih end = rw e refl
  own_line (Pos x) later e ih end = rw e (ap (λ ps. x ∷ ps) ih)
  own_line (Freq x) later e ih end = rw e ih
  own_line StartOffset later e ih end = rw e ih
  own_line EndOffset later e ih end = rw e ih
  own_line Payload later e ih end = rw e ih
  own_line Checksum later e ih end = rw e ih
  own_line Indented later e ih end = rw e ih
  own_line Unknown later e ih end = rw e ih

run_rises : (docs : ℕ) (past : List Form) (ls : List Taken) (fs : List Form) → Walk docs past ls fs → rises_from docs (least_of (last_doc past)) (line_forms (run ls)) ≡ true
run_rises docs past [] fs w = refl
run_rises docs past (l ∷ ls) fs (_, inl (e, _, w)) = rises_passed docs past l (run ls) e (run_rises docs past ls fs w)
run_rises docs past (l ∷ ls) fs (_, inr (later, _, a, w)) = rises_line docs past l (run ls) (form_of l.content) refl a (run_rises docs (form_of l.content ∷ past) ls later w)

own_are : (docs : ℕ) (past : List Form) (ls : List Taken) (fs : List Form) → Walk docs past ls fs → own_positions fs ≡ positions_here (line_forms (run ls))
own_are docs past [] fs w = ap own_positions w
own_are docs past (l ∷ ls) fs (_, inl (e, _, w)) = let ih = own_are docs past ls fs w in rw e (rw e ih)
own_are docs past (l ∷ ls) fs (_, inr (later, is, a, w)) =
    let over : form_of l.content ≡ End → own_positions later ≡ [] = λ e. (after_end docs past ls later (subst (λ f. Walk docs (f ∷ past) ls later) e w)).own in
    ap own_positions is ∙ own_line docs past l (run ls) (form_of l.content) later refl (own_are docs (form_of l.content ∷ past) ls later w) over

-- ---- a document has a term

abbrev has_entries : List Form → Bool
has_entries [] = false
has_entries (Field f ∷ past) = false
has_entries (End ∷ past) = false
has_entries (Checksum ∷ past) = false
has_entries (_ ∷ past) = true

abbrev HasTerm : List Form → Type 0
HasTerm past = has_entries past ≡ true → is_some (last_term past) ≡ true

entries_if : (test : List Form → Bool) → test [] ≡ false → ((f : List ℕ) (past : List Form) → test (Field f ∷ past) ≡ false) → ((past : List Form) → test (End ∷ past) ≡ false)
    → ((past : List Form) → test (Checksum ∷ past) ≡ false) → (past : List Form) → test past ≡ true → has_entries past ≡ true
entries_if test none field end sum [] h = absurd (true≢false (sym h ∙ none))
entries_if test none field end sum (Field f ∷ past) h = absurd (true≢false (sym h ∙ field f past))
entries_if test none field end sum (End ∷ past) h = absurd (true≢false (sym h ∙ end past))
entries_if test none field end sum (Checksum ∷ past) h = absurd (true≢false (sym h ∙ sum past))
entries_if test none field end sum (_ ∷ past) h = refl

doc_entries : (docs : ℕ) (past : List Form) (d : ℕ) → is_allowed docs past (Doc d) ≡ true → has_entries past ≡ true
doc_entries docs past d = entries_if (λ p. is_allowed docs p (Doc d)) refl (λ _ _. refl) (λ _. refl) (λ _. refl) past

has_term_on : (docs : ℕ) (past : List Form) (f : Form) → is_allowed docs past f ≡ true → HasTerm past → HasTerm (f ∷ past)
has_term_on docs past (Field x) a h = λ e. absurd (true≢false (sym e))
has_term_on docs past (Term x) a h = λ e. refl
has_term_on docs past (Doc d) a h = λ e. h (doc_entries docs past d a)
has_term_on docs past (Freq n) a h = λ e. h (entries_if (λ p. is_allowed docs p (Freq n)) refl (λ _ _. refl) (λ _. refl) (λ _. refl) past a)
has_term_on docs past (Pos n) a h = λ e. h (entries_if (λ p. is_allowed docs p (Pos n)) refl (λ _ _. refl) (λ _. refl) (λ _. refl) past a)
has_term_on docs past StartOffset a h = λ e. h (entries_if (λ p. is_allowed docs p StartOffset) refl (λ _ _. refl) (λ _. refl) (λ _. refl) past a)
has_term_on docs past EndOffset a h = λ e. h (entries_if (λ p. is_allowed docs p EndOffset) refl (λ _ _. refl) (λ _. refl) (λ _. refl) past a)
has_term_on docs past Payload a h = λ e. h (entries_if (λ p. is_allowed docs p Payload) refl (λ _ _. refl) (λ _. refl) (λ _. refl) past a)
has_term_on docs past End a h = λ e. absurd (true≢false (sym e))
has_term_on docs past Checksum a h = λ e. absurd (true≢false (sym e))
has_term_on docs past Indented a h = absurd (true≢false (sym a))
has_term_on docs past Unknown a h = absurd (true≢false (sym a))

-- ---- rows

-- the documents of the lines of an entry
abbrev pub entry_postings : List ℕ → TermEntry → List Posting
entry_postings text e = listed (line_forms (cut (slice_of e.from (e.to - e.from) text)).lines)

abbrev is_here : List ℕ → List ℕ → List ℕ → Option (List ℕ) → Bool
is_here field term own None = false
is_here field term own (Some t) = bytes_eq own field && bytes_eq t term

abbrev if_here : Bool → List Posting → List Posting
if_here b ps = if b then ps else []

none_here : (b : Bool) → if_here b [] ≡ []
none_here true = refl
none_here false = refl

module _ (docs : ℕ) (text field term : List ℕ) where
  abbrev here : List Form → List Posting → List Posting
  here past ps = if_here (is_here field term (last_field past) (last_term past)) ps

  -- of these entries those of the field and the term
  abbrev of_entries : List TermEntry → List Posting
  of_entries es = flat_map (entry_postings text) (filter (is_entry field term) es)

  abbrev Given : List Form → ℕ → List Taken → List Form → Type 0
  Given past at ls fs = postings_with field term (rows_after past fs) ≡ here past (listed (line_forms (run ls))) ++ of_entries (terms_after (last_field past) at ls)

  row_here : (past : List Form) (d : ℕ) (ps : List ℕ) (t : Option (List ℕ)) → last_term past ≡ t → is_some t ≡ true
      → is_of field term (row past d ps) ≡ is_here field term (last_field past) (last_term past)
  row_here past d ps None e h = absurd (true≢false (sym h))
  row_here past d ps (Some t) e h = rw e refl

  doc_row : (b : Bool) (r : Row) (rows : List Row) (p : Posting) (ps others : List Posting) → is_of field term r ≡ b → posting_of r ≡ p
      → postings_with field term rows ≡ if_here b ps ++ others → postings_with field term (r ∷ rows) ≡ if_here b (p ∷ ps) ++ others
  doc_row true r rows p ps others e is ih = rw e (ap₂ (λ x xs. x ∷ xs) is ih)
  doc_row false r rows p ps others e is ih = rw e ih

  term_row : (b : Bool) (e : TermEntry) (es : List TermEntry) (ps : List Posting) → is_entry field term e ≡ b → entry_postings text e ≡ ps
      → if_here b ps ++ of_entries es ≡ of_entries (e ∷ es)
  term_row true e es ps h is = rw h (ap (λ x. x ++ of_entries es) (sym is))
  term_row false e es ps h is = rw h refl

  module _ (past : List Form) (at now : ℕ) (l : Taken) (ls : List Taken) (tail : Taken) (later : List Form) (next : cut (drop now text) ≡ record { lines = ls; tail = tail }) where
    abbrev LineGiven : Form → Type 0
    LineGiven f = postings_with field term (rows_after past (f ∷ later))
        ≡ here past (listed (line_forms (if ends_entries f then [] else l ∷ run ls))) ++ of_entries (term_at (last_field past) f now ls ++ terms_after (field_after (last_field past) f) now ls)

    line_given : (f : Form) → form_of l.content ≡ f → is_allowed docs past f ≡ true → HasTerm past → Walk docs (f ∷ past) ls later → Given (f ∷ past) now ls later → LineGiven f
    line_given (Field x) e a has w ih = ih ∙ ap (λ ps. ps ++ of_entries (terms_after (last_field (Field x ∷ past)) now ls)) (sym (none_here (is_here field term (last_field past) (last_term past))))
    line_given (Term t) e a has w ih =
        let own : TermEntry = record { field = last_field past; term = t; from = now; to = entries_end now ls } in
        let lines : entry_postings text own ≡ listed (line_forms (run ls)) = ap (λ (c : Cut). listed (line_forms c.lines)) (entries_cut text now ls tail next) in
        ih ∙ term_row _ own (terms_after (last_field past) now ls) _ refl lines
        ∙ ap (λ x. x ++ of_entries (own ∷ terms_after (last_field past) now ls)) (sym (none_here (is_here field term (last_field past) (last_term past))))
    line_given End e a has w ih =
        let over = after_end docs past ls later w in
        ih ∙ ap (λ ps. here past ps ++ of_entries (terms_after (last_field past) now ls)) over.none
    line_given (Doc d) e a has w ih =
        let is : own_positions later ≡ positions_here (line_forms (run ls)) = own_are docs (Doc d ∷ past) ls later w in
        let some = has (doc_entries docs past d a) in
        rw e (doc_row _ (row past d (own_positions later)) (rows_after (Doc d ∷ past) later) (record { doc = d; positions = positions_here (line_forms (run ls)) }) (listed (line_forms (run ls)))
        (of_entries (terms_after (last_field past) now ls)) (row_here past d (own_positions later) _ refl some) (ap (λ ps. record { doc = d; positions = ps }) is) ih)
    line_given (Freq n) e a has w ih = rw e ih
    line_given (Pos n) e a has w ih = rw e ih
    line_given StartOffset e a has w ih = rw e ih
    line_given EndOffset e a has w ih = rw e ih
    line_given Payload e a has w ih = rw e ih
    line_given Checksum e a has w ih = rw e ih
    line_given Indented e a has w ih = absurd (true≢false (sym a))
    line_given Unknown e a has w ih = absurd (true≢false (sym a))

  after_first : (at : ℕ) (l : Taken) (ls : List Taken) (tail : Taken) → cut (drop at text) ≡ record { lines = l ∷ ls; tail = tail } → cut (drop (at + l.size) text) ≡ record { lines = ls; tail = tail }
  after_first at l ls tail is = sym (ap cut (drop_drop at l.size text)) ∙ (first_line (drop at text) l ls tail is).rest

  given : (past : List Form) (at : ℕ) (ls : List Taken) (tail : Taken) (fs : List Form) → cut (drop at text) ≡ record { lines = ls; tail = tail } → HasTerm past → Walk docs past ls fs → Given past at ls fs
  given past at [] tail fs is has w = rw w (sym (append-nil _ ∙ none_here (is_here field term (last_field past) (last_term past))))
  given past at (l ∷ ls) tail fs is has (_, inl (e, _, w)) =
      let ih = given past (at + l.size) ls tail fs (after_first at l ls tail is) has w in
      rw e (rw e ih)
  given past at (l ∷ ls) tail fs is has (_, inr (later, own, a, w)) =
      let next = after_first at l ls tail is in
      let ih = given (form_of l.content ∷ past) (at + l.size) ls tail later next (has_term_on docs past (form_of l.content) a has) w in
      rw own (line_given past at (at + l.size) l ls tail later next (form_of l.content) refl a has w ih)

-- ---- the whole text

rows_ok : (r : Result (List Form) ℕ) (rows : List Row) → rows_of r ≡ Ok rows → (fs : List Form) × (r ≡ Ok fs) × (rows ≡ rows_after [] fs)
rows_ok (Ok fs) rows h = (fs, refl, cc)
rows_ok (Err at) rows h = absurd (cc)

whole_cut : (text : List ℕ) → cut (drop 0 text) ≡ record { lines = (cut text).lines; tail = (cut text).tail }
whole_cut text = refl

pub rows_are : (docs : ℕ) (text field term : List ℕ) (rows : List Row) → postings text docs ≡ Ok rows
    → postings_with field term rows ≡ flat_map (entry_postings text) (filter (is_entry field term) (terms_of text))
rows_are docs text field term rows h =
    let (fs, ok, is) = rows_ok (forms_after docs [] 0 (cut text).lines (cut text).tail) rows h in
    ap (postings_with field term) is
    ∙ given docs text field term [] 0 (cut text).lines (cut text).tail fs (whole_cut text) (λ e. absurd (true≢false (sym e))) (walk docs [] 0 (cut text).lines (cut text).tail fs ok)

-- ---- each entry

abbrev pub IsEntry : ℕ → List ℕ → TermEntry → Type 0
IsEntry docs text e = IsEntryText docs 0 (cut (slice_of e.from (e.to - e.from) text))

abbrev pub AreEntries : ℕ → List ℕ → List TermEntry → Type 0
AreEntries docs text [] = Unit {0}
AreEntries docs text (e ∷ es) = IsEntry docs text e × AreEntries docs text es

module _ (docs : ℕ) (text : List ℕ) where
  term_entry : (past : List Form) (t : List ℕ) (now : ℕ) (ls : List Taken) (tail : Taken) (later : List Form) → cut (drop now text) ≡ record { lines = ls; tail = tail }
      → Walk docs (Term t ∷ past) ls later → IsEntryText docs 0 (cut (slice_of now (entries_end now ls - now) text))
  term_entry past t now ls tail later next w =
      let is = entries_cut text now ls tail next in
      rw is (record { whole = refl; short = run_short docs (Term t ∷ past) ls later w; rising = run_rises docs (Term t ∷ past) ls later w })

  line_entries : (past : List Form) (field : List ℕ) (now : ℕ) (ls : List Taken) (tail : Taken) (later : List Form) → cut (drop now text) ≡ record { lines = ls; tail = tail }
      → (f : Form) → Walk docs (f ∷ past) ls later → AreEntries docs text (terms_after (field_after field f) now ls)
      → AreEntries docs text (term_at field f now ls ++ terms_after (field_after field f) now ls)
  line_entries past field now ls tail later next (Term t) w rest = (term_entry past t now ls tail later next w, rest)
  line_entries past field now ls tail later next (Field x) w rest = rest
  line_entries past field now ls tail later next (Doc x) w rest = rest
  line_entries past field now ls tail later next (Freq x) w rest = rest
  line_entries past field now ls tail later next (Pos x) w rest = rest
  line_entries past field now ls tail later next StartOffset w rest = rest
  line_entries past field now ls tail later next EndOffset w rest = rest
  line_entries past field now ls tail later next Payload w rest = rest
  line_entries past field now ls tail later next End w rest = rest
  line_entries past field now ls tail later next Checksum w rest = rest
  line_entries past field now ls tail later next Indented w rest = rest
  line_entries past field now ls tail later next Unknown w rest = rest

  are_entries : (past : List Form) (field : List ℕ) (at : ℕ) (ls : List Taken) (tail : Taken) (fs : List Form) → cut (drop at text) ≡ record { lines = ls; tail = tail } → Walk docs past ls fs
      → AreEntries docs text (terms_after field at ls)
  are_entries past field at [] tail fs is w = tt
  are_entries past field at (l ∷ ls) tail fs is (_, inl (e, _, w)) =
      let rest = are_entries past field (at + l.size) ls tail fs (after_first docs text [] [] at l ls tail is) w in
      rw e rest
  are_entries past field at (l ∷ ls) tail fs is (_, inr (later, _, _, w)) =
      let next = after_first docs text [] [] at l ls tail is in
      line_entries past field (at + l.size) ls tail later next (form_of l.content) w
      (are_entries (form_of l.content ∷ past) (field_after field (form_of l.content)) (at + l.size) ls tail later next w)

pub entries_are : (docs : ℕ) (text : List ℕ) (rows : List Row) → postings text docs ≡ Ok rows → AreEntries docs text (terms_of text)
entries_are docs text rows h =
    let (fs, ok, is) = rows_ok (forms_after docs [] 0 (cut text).lines (cut text).tail) rows h in
    are_entries docs text [] [] 0 (cut text).lines (cut text).tail fs (whole_cut text) (walk docs [] 0 (cut text).lines (cut text).tail fs ok)
