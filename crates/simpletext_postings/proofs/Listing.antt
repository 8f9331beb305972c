-- The documents of the lines of entries, line by line.
use Rattle.std.proofs.Common.{arith, ◌≡◌, ℕ, ◌+◌, ◌<◌, ◌≤◌, List, [], ◌∷◌, ◌++◌, append_assoc, Some, sym, Bool, true, false, refl, ap, ap₂, ◌∙◌, subst, true≢false}
use Rattle.std.specs.Prelude.{◌&&◌, map, nat_lt, nat_le}
use Rattle.std.specs.List.{list_all}
use Rattle.std.proofs.lemmas.Bool.{and_parts}
use Rattle.std.proofs.lemmas.Bool.Decides.{nat_tests}
use Rattle.std.proofs.lemmas.List.{map-append}
use Rattle.text_lines.specs.Lines.{Taken, Cut, cut}
use Rattle.text_lines.specs.Walks.{taken, then_lines, first_size}
use Rattle.text_lines.specs.Readers.{Refuses, line_limit}
use Rattle.text_lines.specs.Errors.{text_error}
use Rattle.text_lines.specs.declared.reader.LineError.{LineError}
use Rattle.text_lines.specs.declared.reader.LineError.TheVariants.{Unended, TooLong, Bytes}
use Rattle.simpletext_postings.specs.Postings.{form_of}
use Rattle.simpletext_postings.specs.Rows.{RiseWithin}
use Rattle.simpletext_postings.specs.Terms.{IsOfBytes, posting_doc}
use Rattle.simpletext_postings.specs.Entries.{positions_here, listed, rises_from, line_forms, is_short, IsEntryText, with_positions, collected, so_far, Rises, Collects}
use Rattle.simpletext_postings.specs.Forms.{Form}
use Rattle.simpletext_postings.specs.Forms.{Doc}
use Rattle.simpletext_postings.specs.declared.collect.Collecting.{Collecting}

rise_next : (docs low : ℕ) (xs : List ℕ) (d e : ℕ) → RiseWithin low docs (xs ++ d ∷ []) → d + 1 ≤ e → e < docs → RiseWithin low docs ((xs ++ d ∷ []) ++ e ∷ [])
rise_next docs low [] d e h le lt = (h.0, h.1, (le, lt, tt))
rise_next docs low (x ∷ xs) d e h le lt = (h.0, h.1, rise_next docs (x + 1) xs d e h.2 le lt)

-- ---- a document's line

module _ (d : ℕ) (old new : Collecting) (docs_are : new.docs ≡ old.docs) (least_is : new.least ≡ d + 1) (found_are : new.found.items ≡ so_far old)
    (last_is : new.last ≡ Some (record { doc = d; positions = [] })) (low : old.least ≤ d) (high : d < old.docs) where
  doc_more : (later : List Form) → collected new later ≡ collected old (Doc d ∷ later)
  doc_more later =
      ap₂ (λ x y. x ++ with_positions y (positions_here later) ++ listed later) found_are last_is
      ∙ append_assoc (so_far old) (record { doc = d; positions = positions_here later } ∷ []) (listed later)

  numbers : map posting_doc (so_far new) ≡ map posting_doc (so_far old) ++ d ∷ []
  numbers =
      ap₂ (λ x y. map posting_doc (x ++ with_positions y [])) found_are last_is
      ∙ map-append posting_doc (so_far old) (record { doc = d; positions = [] } ∷ [])

  doc_rises : Rises old → Rises new
  doc_rises r =
      let own : RiseWithin 0 old.docs (map posting_doc (so_far old) ++ d ∷ []) = r.next d low high in
      record {
        rise = rw (docs_are, numbers) own;
        next = λ e le lt.
            let a : d + 1 ≤ e = omega (arith, le, least_is) in
            let b : e < old.docs = omega (arith, lt, docs_are) in
            rw (docs_are, numbers) (rise_next old.docs 0 (map posting_doc (so_far old)) d e own a b);
      }

  pub collects_doc : Collects (Doc d) old new true
  collects_doc = record {
    docs = docs_are;
    same = λ later h.
        let parts = and_parts (nat_le old.least d && nat_lt d old.docs) (rises_from old.docs (d + 1) later) h in
        (refl, rw (docs_are, least_is) parts.1);
    more = λ _. doc_more;
    rises = λ _. doc_rises;
  }

-- a document that is not above the one before, or not below the number of documents
pub refuses_doc : (d : ℕ) (old : Collecting) → (nat_le old.least d && nat_lt d old.docs) ≡ false → Collects (Doc d) old old false
refuses_doc d old h = record {
  docs = refl;
  same = λ later k. let parts = and_parts (nat_le old.least d && nat_lt d old.docs) (rises_from old.docs (d + 1) later) k in absurd (true≢false (sym parts.0 ∙ h));
  more = λ e. absurd (true≢false (sym e));
  rises = λ e. absurd (true≢false (sym e));
}

-- ---- one line on

module _ (content : List ℕ) (size : ℕ) (before after : Cut) (old new : Collecting) (line : before ≡ then_lines (taken content size) after) where
  lines_are : line_forms before.lines ≡ form_of content ∷ line_forms after.lines
  lines_are = ap (λ (c : Cut). line_forms c.lines) line

  pub more_lines : (answer : Bool) → answer ≡ true → Collects (form_of content) old new answer → collected new (line_forms after.lines) ≡ collected old (line_forms before.lines)
  more_lines answer e collects = collects.more e (line_forms after.lines) ∙ ap (collected old) (sym lines_are)

  pub text_after : (answer : Bool) → Collects (form_of content) old new answer → IsEntryText old.docs old.least before → IsEntryText new.docs new.least after
  text_after answer collects t =
      let short = subst (λ (c : Cut). list_all is_short c.lines ≡ true) line t.short in
      let rising = subst (λ fs. rises_from old.docs old.least fs ≡ true) lines_are t.rising in
      record {
        whole = subst (λ (c : Cut). c.tail.size ≡ 0) line t.whole;
        short = (and_parts (is_short (taken content size)) (list_all is_short after.lines) short).1;
        rising = (collects.same (line_forms after.lines) rising).1;
      }

  -- a line of a text whose documents rise is taken
  pub not_refused : Collects (form_of content) old new false → IsEntryText old.docs old.least before → ⊥
  not_refused collects t =
      let rising = subst (λ fs. rises_from old.docs old.least fs ≡ true) lines_are t.rising in
      true≢false (sym (collects.same (line_forms after.lines) rising).0)

-- ---- the end, and a line that does not end

pub no_lines : (rest : List ℕ) (c : Collecting) → rest ≡ [] → collected c (line_forms (cut rest).lines) ≡ collected c []
unfolding cut
no_lines rest c e = rw e refl

long_line : (docs least : ℕ) (ls : List Taken) (tail : Taken) → line_limit < first_size (record { lines = ls; tail = tail }) → IsEntryText docs least (record { lines = ls; tail = tail }) → ⊥
long_line docs least [] tail h t = let e = t.whole in omega (arith, h, e)
long_line docs least (l ∷ ls) tail h t =
    let own = (and_parts (is_short l) (list_all is_short ls) t.short).0 in
    let le : l.size ≤ 16777216 = grind (arith, nat_tests) in
    omega (arith, h, le)

cut_off : (docs least : ℕ) (ls : List Taken) (tail : Taken) → ls ≡ [] → 0 < first_size (record { lines = ls; tail = tail }) → IsEntryText docs least (record { lines = ls; tail = tail }) → ⊥
cut_off docs least [] tail e h t = let w = t.whole in omega (arith, h, w)
cut_off docs least (l ∷ ls) tail e h t = absurd (cc)

pub of_bytes : (docs least : ℕ) (rest : List ℕ) → IsEntryText docs least (cut rest) → (e : LineError) → Refuses e rest → IsOfBytes (text_error e)
of_bytes docs least rest t (Bytes e) h = tt
of_bytes docs least rest t (TooLong p) h = absurd (long_line docs least (cut rest).lines (cut rest).tail h t)
of_bytes docs least rest t (Unended p) h = absurd (cut_off docs least (cut rest).lines (cut rest).tail h.0 h.1 t)

pub collects_here : (form own : Form) (old new : Collecting) (answer own_answer : Bool) → own ≡ form → own_answer ≡ answer → Collects own old new own_answer → Collects form old new answer
collects_here form own old new answer own_answer f b h =
    subst (λ x. Collects x old new answer) f (subst (λ x. Collects own old new x) b h)
