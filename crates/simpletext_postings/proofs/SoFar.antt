-- What holds while a postings text is read line by line.
use Rattle.std.proofs.Common.{arith, ◌≡◌, ℕ, ◌+◌, ◌-◌, ◌<◌, ◌≤◌, length, List, [], ◌∷◌, ◌++◌, append_assoc, append-nil, None, sym, Bool, true, false, refl, ap, ap₂, ◌∙◌, subst, true≢false}
use Rattle.std.specs.Prelude.{◌==◌, ◌||◌, map, nat_lt, option_map, Option, Some, if◌then◌else◌, Result, Ok, Err}
use Rattle.std.proofs.lemmas.Bool.Decides.{nat_tests}
use Rattle.text_lines.specs.Lines.{Taken, Cut, cut, nothing}
use Rattle.text_lines.specs.Walks.{taken, then_lines, first_size}
use Rattle.text_lines.specs.Readers.{Refuses, Names, line_limit, error_refusal}
use Rattle.text_lines.specs.Errors.{text_error, bytes_refusal}
use Rattle.text_lines.specs.declared.reader.LineError.{LineError}
use Rattle.text_lines.specs.declared.reader.LineError.TheVariants.{Unended, TooLong, Bytes}
use Rattle.simpletext_postings.specs.Postings.{form_of, last_field, at_checksum, is_allowed, is_passed, forms_after, in_front, rows_of, rows_after, postings}
use Rattle.simpletext_postings.specs.Terms.{ends_entries, entries_end, field_after, term_at, terms_after, terms_of, Opens}
use Rattle.simpletext_postings.specs.Places.{numbered, named, ArePlaces}
use Rattle.simpletext_postings.specs.Openings.{terms_read, term_read, option_places, AreNamed, IsNamed, IsOpeningOf, terms_with, AddsTerms, IsKept, past_after, Takes, is_within}
use Rattle.simpletext_postings.specs.Forms.{Form}
use Rattle.simpletext_postings.specs.Forms.{Field, Term, Doc, Freq, Pos, StartOffset, EndOffset, Payload, End, Checksum, Indented, Unknown}
use Rattle.simpletext_postings.specs.declared.rows.Row.{Row}
use Rattle.simpletext_postings.specs.declared.places.Place.{Place}
use Rattle.simpletext_postings.specs.declared.opening.Opening.{Opening}
use Rattle.simpletext_postings.proofs.Opened.{all_more, place_more}

-- the lines from the place `at` on, after those in `past`, give what the whole text gives
pub record IsSoFar (docs : ℕ) (text : List ℕ) (past : List Form) (at : ℕ) (rest : Cut) (o : Opening) : Type 0 where
  pub bad : (p : ℕ) → forms_after docs past at rest.lines rest.tail ≡ Err p → postings text docs ≡ Err p
  pub good : (fs : List Form) → forms_after docs past at rest.lines rest.tail ≡ Ok fs → (rows : List Row) × (postings text docs ≡ Ok rows)
  pub terms : terms_with o (entries_end at rest.lines) ++ terms_after (last_field past) at rest.lines ≡ terms_of text

no_terms : (o : Opening) (end : ℕ) → o.places.items ≡ [] → term_read o ≡ None → terms_with o end ≡ []
no_terms o end p t = rw (p, t) refl

pub begins : (docs : ℕ) (text : List ℕ) (o : Opening) → IsOpeningOf [] o → o.places.items ≡ [] → IsSoFar docs text [] 0 (cut text) o
begins docs text o of none = record {
  bad = λ p e. ap rows_of e;
  good = λ fs e. (rows_after [] fs, ap rows_of e);
  terms = ap (λ x. x ++ terms_of text) (no_terms o (entries_end 0 (cut text).lines) none (of.outside refl));
}

-- ---- the terms, one line on

field_by : (past : List Form) (b : Bool) → last_field (if b then past else Indented ∷ past) ≡ last_field past
field_by past true = refl
field_by past false = refl

module _ (past : List Form) (at now : ℕ) (ls : List Taken) (old new : Opening) where
  abbrev LineTerms : Form → Type 0
  LineTerms f = terms_with new (entries_end now ls) ++ terms_after (last_field (past_after past f)) now ls
      ≡ terms_with old (if ends_entries f then at else entries_end now ls) ++ (term_at (last_field past) f now ls ++ terms_after (field_after (last_field past) f) now ls)

  line_terms : (f : Form) → AddsTerms past f at now old new → LineTerms f
  line_terms (Term t) adds =
      ap (λ x. x ++ terms_after (last_field past) now ls) (adds (entries_end now ls))
      ∙ append_assoc (terms_with old at) (record { field = last_field past; term = t; from = now; to = entries_end now ls } ∷ []) (terms_after (last_field past) now ls)
  line_terms (Field f) adds = ap (λ x. x ++ terms_after f now ls) (adds (entries_end now ls))
  line_terms End adds = ap (λ x. x ++ terms_after (last_field past) now ls) (adds (entries_end now ls))
  line_terms Indented adds = ap₂ (λ x y. x ++ terms_after y now ls) (adds (entries_end now ls)) (field_by past (is_passed past Indented))
  line_terms (Doc n) adds = ap (λ x. x ++ terms_after (last_field past) now ls) (adds (entries_end now ls))
  line_terms (Freq n) adds = ap (λ x. x ++ terms_after (last_field past) now ls) (adds (entries_end now ls))
  line_terms (Pos n) adds = ap (λ x. x ++ terms_after (last_field past) now ls) (adds (entries_end now ls))
  line_terms StartOffset adds = ap (λ x. x ++ terms_after (last_field past) now ls) (adds (entries_end now ls))
  line_terms EndOffset adds = ap (λ x. x ++ terms_after (last_field past) now ls) (adds (entries_end now ls))
  line_terms Payload adds = ap (λ x. x ++ terms_after (last_field past) now ls) (adds (entries_end now ls))
  line_terms Checksum adds = ap (λ x. x ++ terms_after (last_field past) now ls) (adds (entries_end now ls))
  line_terms Unknown adds = ap (λ x. x ++ terms_after (last_field past) now ls) (adds (entries_end now ls))

-- ---- one line on

abbrev taken_on : List Form → Form → Result (List Form) ℕ → Result (List Form) ℕ
taken_on past f r = if is_passed past f then r else in_front f r

bad_on : (past : List Form) (f : Form) (p : ℕ) (b : Bool) (r : Result (List Form) ℕ) → r ≡ Err p → (if b then r else in_front f r) ≡ Err p
bad_on past f p true r e = e
bad_on past f p false r e = ap (in_front f) e

good_on : (past : List Form) (f : Form) (fs : List Form) (b : Bool) (r : Result (List Form) ℕ) → r ≡ Ok fs → (if b then r else in_front f r) ≡ Ok (if b then fs else f ∷ fs)
good_on past f fs true r e = e
good_on past f fs false r e = ap (in_front f) e

-- the forms from an allowed line on
forms_on : (docs : ℕ) (past : List Form) (f : Form) (at now : ℕ) (ls : List Taken) (tail : Taken) (p a : Bool) → is_passed past f ≡ p → is_allowed docs past f ≡ a → (p || a) ≡ true
    → (if is_passed past f then forms_after docs past now ls tail else if is_allowed docs past f then in_front f (forms_after docs (f ∷ past) now ls tail) else Err at)
    ≡ taken_on past f (forms_after docs (past_after past f) now ls tail)
forms_on docs past f at now ls tail true a pe ae h = rw pe refl
forms_on docs past f at now ls tail false true pe ae h = rw (pe, ae) refl
forms_on docs past f at now ls tail false false pe ae h = absurd (true≢false (sym h))

neither : (p a : Bool) → false ≡ (p || a) → (p ≡ false) × (a ≡ false)
neither true a h = absurd (true≢false (sym h))
neither false a h = (refl, sym h)

module _ (docs : ℕ) (text : List ℕ) (past : List Form) (at now : ℕ) (content : List ℕ) (before after : Cut) (old : Opening)
    (so_far : IsSoFar docs text past at before old) (line : before ≡ then_lines (taken content (now - at)) after) (short : now - at ≤ line_limit) (ahead : at < now) where
  now_is : at + (now - at) ≡ now
  now_is = omega arith

  fits : nat_lt 16777216 (now - at) ≡ false
  fits = grind (arith, nat_tests)

  lines_are : before.lines ≡ taken content (now - at) ∷ after.lines
  lines_are = ap (λ (c : Cut). c.lines) line

  tail_is : before.tail ≡ after.tail
  tail_is = ap (λ (c : Cut). c.tail) line

  from_here : forms_after docs past at before.lines before.tail
      ≡ (if is_passed past (form_of content) then forms_after docs past now after.lines after.tail
      else if is_allowed docs past (form_of content) then in_front (form_of content) (forms_after docs (form_of content ∷ past) now after.lines after.tail) else Err at)
  from_here = rw (lines_are, tail_is, fits, now_is) refl

  terms_here : terms_with old (entries_end at before.lines) ++ terms_after (last_field past) at before.lines
      ≡ terms_with old (if ends_entries (form_of content) then at else entries_end now after.lines)
      ++ (term_at (last_field past) (form_of content) now after.lines ++ terms_after (field_after (last_field past) (form_of content)) now after.lines)
  terms_here = rw (lines_are, now_is) refl

  pub bad_line : (new : Opening) → Takes docs past (form_of content) at now old new false → postings text docs ≡ Err at
  bad_line new takes =
      let (p, a) = neither (is_passed past (form_of content)) (is_allowed docs past (form_of content)) takes.same in
      let e : forms_after docs past at before.lines before.tail ≡ Err at = from_here ∙ (rw (p, a) refl) in
      so_far.bad at e

  pub good_line : (new : Opening) → Takes docs past (form_of content) at now old new true → IsKept past at old
      → IsSoFar docs text (past_after past (form_of content)) now after new
  good_line new takes kept =
      let f = form_of content in
      let on = from_here ∙ forms_on docs past f at now after.lines after.tail _ _ refl refl (sym takes.same) in
      record {
        bad = λ p e. so_far.bad p (on ∙ bad_on past f p (is_passed past f) _ e);
        good = λ fs e. so_far.good _ (on ∙ good_on past f fs (is_passed past f) _ e);
        terms = line_terms past at now after.lines old new f (takes.terms refl kept) ∙ sym terms_here ∙ so_far.terms;
      }

-- ---- the end, and a line that does not end

cut_nothing : (rest : List ℕ) → rest ≡ [] → cut rest ≡ nothing
unfolding cut
cut_nothing rest e = rw e refl

module _ (docs : ℕ) (text : List ℕ) (past : List Form) (at : ℕ) (rest : List ℕ) (o : Opening) (so_far : IsSoFar docs text past at (cut rest) o) (none : rest ≡ []) where
  at_end : forms_after docs past at (cut rest).lines (cut rest).tail ≡ (if at_checksum past then Ok [] else Err at)
  at_end = let e = cut_nothing rest none in rw e refl

  pub done : at_checksum past ≡ true → (rows : List Row) × (postings text docs ≡ Ok rows)
  done h = so_far.good [] (at_end ∙ (rw h refl))

  pub not_done : at_checksum past ≡ false → postings text docs ≡ Err at
  not_done h = so_far.bad at (at_end ∙ (rw h refl))

  pub done_terms : term_read o ≡ None → map (named o.fields.items) (terms_read o) ≡ terms_of text
  done_terms t =
      let e = cut_nothing rest none in
      let ends : (terms_with o (entries_end at (cut rest).lines) ++ terms_after (last_field past) at (cut rest).lines) ≡ map (named o.fields.items) (terms_read o) =
      rw (e, t) (append-nil _ ∙ append-nil _) in
      sym ends ∙ so_far.terms

pub outside_sum : (past : List Form) → at_checksum past ≡ true → is_within past ≡ false
outside_sum (Checksum ∷ past) h = refl
outside_sum [] h = refl
outside_sum (End ∷ past) h = refl
outside_sum (Field f ∷ past) h = absurd (true≢false (sym h))
outside_sum (Term f ∷ past) h = absurd (true≢false (sym h))
outside_sum (Doc f ∷ past) h = absurd (true≢false (sym h))
outside_sum (Freq f ∷ past) h = absurd (true≢false (sym h))
outside_sum (Pos f ∷ past) h = absurd (true≢false (sym h))
outside_sum (StartOffset ∷ past) h = absurd (true≢false (sym h))
outside_sum (EndOffset ∷ past) h = absurd (true≢false (sym h))
outside_sum (Payload ∷ past) h = absurd (true≢false (sym h))
outside_sum (Indented ∷ past) h = absurd (true≢false (sym h))
outside_sum (Unknown ∷ past) h = absurd (true≢false (sym h))

too_long : (docs : ℕ) (past : List Form) (at : ℕ) (ls : List Taken) (tail : Taken) → line_limit < first_size (record { lines = ls; tail = tail })
    → forms_after docs past at ls tail ≡ Err at
too_long docs past at [] tail h = let e : (tail.size == 0) ≡ false = grind (arith, nat_tests) in rw e refl
too_long docs past at (l ∷ ls) tail h = let e : nat_lt 16777216 l.size ≡ true = grind (arith, nat_tests) in rw e refl

unended : (docs : ℕ) (past : List Form) (at : ℕ) (ls : List Taken) (tail : Taken) → ls ≡ [] → 0 < first_size (record { lines = ls; tail = tail })
    → forms_after docs past at ls tail ≡ Err at
unended docs past at [] tail e h = let own : (tail.size == 0) ≡ false = grind (arith, nat_tests) in rw own refl
unended docs past at (l ∷ ls) tail e h = absurd (cc)

pub refused : (T : Type 0) (docs : ℕ) (text : List ℕ) (past : List Form) (at : ℕ) (rest : List ℕ) (o : Opening) → IsSoFar docs text past at (cut rest) o
    → (e : LineError) → Names at e → Refuses e rest → Opens {T = T} (Err (text_error e)) (postings text docs)
refused T docs text past at rest o so_far (Bytes e) names h = tt
refused T docs text past at rest o so_far (TooLong p) names h = so_far.bad at (too_long docs past at (cut rest).lines (cut rest).tail h) ∙ ap (λ k. Err k) (sym names)
refused T docs text past at rest o so_far (Unended p) names h = so_far.bad at (unended docs past at (cut rest).lines (cut rest).tail h.0 h.1) ∙ ap (λ k. Err k) (sym names)

-- ---- what is kept at the end

unread : (names : List ℕ) (term : Option Place) → option_map (numbered names) term ≡ None → option_places term ≡ []
unread names None h = refl
unread names (Some p) h = absurd (cc)

all_named : (o : Opening) → IsNamed o → term_read o ≡ None → AreNamed (length o.names.items) o.places.items
all_named o named none =
    subst (AreNamed (length o.names.items)) (ap (λ ps. o.places.items ++ ps) (unread o.names.items o.term none) ∙ append-nil o.places.items) named

pub are_places : (past : List Form) (at size : ℕ) (o : Opening) → at ≤ size → IsKept past at o → IsNamed o → term_read o ≡ None
    → ArePlaces size o.fields.items o.names.items o.places.items
are_places past at size o le kept named none = let all = all_named o named none in record {
  lie = all.lie;
  whole = all.whole;
  inside = all_more _ _ (place_more at size (length o.fields.items) (length o.fields.items) le (omega arith)) (terms_read o) kept.inside;
  rising = kept.rising;
  different = kept.different;
}

-- ---- the same line, said otherwise

pub takes_here : (docs own_docs : ℕ) (past : List Form) (content own_content : List ℕ) (at own_at now own_now : ℕ) (old new : Opening) (answer own_answer : Bool)
    → own_docs ≡ docs → own_content ≡ content → own_at ≡ at → own_now ≡ now → own_answer ≡ answer
    → Takes own_docs past (form_of own_content) own_at own_now old new own_answer → Takes docs past (form_of content) at now old new answer
takes_here docs own_docs past content own_content at own_at now own_now old new answer own_answer d c a n b h =
    subst (λ x. Takes x past (form_of content) at now old new answer) d (
    subst (λ x. Takes own_docs past (form_of x) at now old new answer) c (
    subst (λ x. Takes own_docs past (form_of own_content) x now old new answer) a (
    subst (λ x. Takes own_docs past (form_of own_content) own_at x old new answer) n (
    subst (λ x. Takes own_docs past (form_of own_content) own_at own_now old new x) b h))))

pub same_refusal : (e : LineError) → error_refusal e ≡ bytes_refusal (text_error e)
same_refusal (Bytes e) = refl
same_refusal (TooLong p) = refl
same_refusal (Unended p) = refl
