-- What is written for rows has these rows again.
use Rattle.std.proofs.Common.{◌≡◌, ℕ, length, append_assoc, List, [], ◌∷◌, ◌++◌, Option, Some, None, Ok, Bool, true, false, refl, ap, ◌∙◌}
use Rattle.std.specs.Prelude.{◌&&◌, if◌then◌else◌, codes}
use Rattle.std.specs.List.{list_all, flat_map}
use Rattle.std.specs.Fmt.{decimal}
use Rattle.std.proofs.lemmas.Bool.{and_parts}
use Rattle.text_lines.specs.Escapes.{newline, escape}
use Rattle.text_lines.specs.Lines.{Cut, cut}
use Rattle.simpletext_postings.specs.Postings.{forms_after, rows_of, postings}
use Rattle.simpletext_postings.specs.Rows.{is_small, is_not_falling, are_positions, is_row, each_follows, are_rows}
use Rattle.simpletext_postings.specs.Written.{name_line, number_line, is_in_field, is_in_term, field_lines, term_lines, position_line, position_lines, row_lines, rows_lines, written}
use Rattle.simpletext_postings.specs.Forms.{Form}
use Rattle.simpletext_postings.specs.Forms.{Doc}
use Rattle.simpletext_postings.specs.declared.rows.Row.{Row}
use Rattle.simpletext_postings.proofs.Digits.{all_digits, escape_digits}
use Rattle.simpletext_postings.proofs.LineTexts.{text_of, cut_text}
use Rattle.simpletext_postings.proofs.RowForms.{field_then, term_then, positions_then, counted_then, row_then, forms_from, all_read, all_good, Kept, kept}

-- ---- the written lines are the lines of the forms

name_text : (mark name t : List ℕ) → name_line mark name ++ t ≡ mark ++ (escape name ++ newline ∷ t)
name_text mark name t = simp append_assoc

number_text : (mark t : List ℕ) (n : ℕ) → is_small n ≡ true → number_line mark n ++ t ≡ mark ++ (escape (decimal n) ++ newline ∷ t)
number_text mark t n h = rw (escape_digits (decimal n) (all_digits n h)) (simp append_assoc)

field_text : (b : Bool) (r : Row) (rest : List Form)
    → (if b then [] else name_line (codes "field ") r.field) ++ text_of rest ≡ text_of (field_then b r rest)
field_text true r rest = refl
field_text false r rest = name_text (codes "field ") r.field (text_of rest)

term_text : (b : Bool) (r : Row) (rest : List Form)
    → (if b then [] else name_line (codes "  term ") r.term) ++ text_of rest ≡ text_of (term_then b r rest)
term_text true r rest = refl
term_text false r rest = name_text (codes "  term ") r.term (text_of rest)

each_position : (ps : List ℕ) (rest : List Form) → list_all is_small ps ≡ true → flat_map position_line ps ++ text_of rest ≡ text_of (positions_then ps rest)
each_position [] rest h = refl
each_position (p ∷ ps) rest h =
    let parts = and_parts (is_small p) (list_all is_small ps) h in
    append_assoc (position_line p) (flat_map position_line ps) (text_of rest)
    ∙ ap (λ (t : List ℕ). position_line p ++ t) (each_position ps rest parts.1)
    ∙ number_text (codes "      pos ") (text_of (positions_then ps rest)) p parts.0

positions_text : (ps : List ℕ) (rest : List Form) → are_positions ps ≡ true → position_lines ps ++ text_of rest ≡ text_of (counted_then ps rest)
positions_text [] rest h = refl
positions_text (p ∷ ps) rest h =
    let parts = and_parts (is_small (length (p ∷ ps)) && list_all is_small (p ∷ ps)) (is_not_falling (p ∷ ps)) h in
    let sizes = and_parts (is_small (length (p ∷ ps))) (list_all is_small (p ∷ ps)) parts.0 in
    let count = number_line (codes "      freq ") (length (p ∷ ps)) in
    append_assoc count (flat_map position_line (p ∷ ps)) (text_of rest)
    ∙ ap (λ (t : List ℕ). count ++ t) (each_position (p ∷ ps) rest sizes.1)
    ∙ number_text (codes "      freq ") (text_of (positions_then (p ∷ ps) rest)) (length (p ∷ ps)) sizes.0

row_text : (docs : ℕ) (before : Option Row) (r : Row) (rest : List Form) → Kept docs r
    → row_lines before r ++ text_of rest ≡ text_of (row_then before r rest)
row_text docs before r rest own =
    let later = counted_then r.positions rest in
    let field = field_lines before r in
    let term = term_lines before r in
    let doc = number_line (codes "    doc ") r.doc in
    append_assoc (field ++ term ++ doc) (position_lines r.positions) (text_of rest)
    ∙ ap (λ (t : List ℕ). (field ++ term ++ doc) ++ t) (positions_text r.positions rest own.positions)
    ∙ append_assoc (field ++ term) doc (text_of later)
    ∙ ap (λ (t : List ℕ). (field ++ term) ++ t) (number_text (codes "    doc ") (text_of later) r.doc own.small)
    ∙ append_assoc field term (text_of (Doc r.doc ∷ later))
    ∙ ap (λ (t : List ℕ). field ++ t) (term_text (is_in_term before r) r (Doc r.doc ∷ later))
    ∙ field_text (is_in_field before r) r (term_then (is_in_term before r) r (Doc r.doc ∷ later))

rows_text : (docs : ℕ) (before : Option Row) (rows : List Row) → list_all (is_row docs) rows ≡ true
    → rows_lines before rows ++ codes "END\nchecksum 00000000000000000000\n" ≡ text_of (forms_from before rows)
rows_text docs before [] h = refl
rows_text docs before (r ∷ rows) h =
    let parts = and_parts (is_row docs r) (list_all (is_row docs) rows) h in
    append_assoc (row_lines before r) (rows_lines (Some r) rows) (codes "END\nchecksum 00000000000000000000\n")
    ∙ ap (λ (t : List ℕ). row_lines before r ++ t) (rows_text docs (Some r) rows parts.1)
    ∙ row_text docs before r (forms_from (Some r) rows) (kept docs r parts.0)

-- ---- read again

pub read_again : (docs : ℕ) (rows : List Row) → are_rows docs rows ≡ true → postings (written rows) docs ≡ Ok rows
read_again docs rows h =
    let good = all_good docs rows h in
    let parts = and_parts (list_all (is_row docs) rows) (each_follows [] rows) h in
    let forms = forms_from None rows in
    let same = ap cut (rows_text docs None rows parts.0) ∙ cut_text forms in
    let read : forms_after docs [] 0 (cut (written rows)).lines (cut (written rows)).tail ≡ Ok forms =
    ap (λ (c : Cut). forms_after docs [] 0 c.lines c.tail) same ∙ all_read docs [] 0 forms good.lawful in
    ap rows_of read ∙ ap (λ (rs : List Row). Ok rs) good.begins
