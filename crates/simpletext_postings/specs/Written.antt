-- The text of rows: each row's lines after those of the row before it.
use Rattle.std.specs.Prelude.{ℕ, ◌&&◌, List, [], ◌∷◌, ◌++◌, length, Bool, false, Option, Some, None, if◌then◌else◌, codes}
use Rattle.std.specs.List.{flat_map}
use Rattle.std.specs.Str.{bytes_eq}
use Rattle.std.specs.Fmt.{decimal}
use Rattle.text_lines.specs.Escapes.{newline, escape}
use Rattle.simpletext_postings.specs.declared.rows.Row.{Row}

-- ---- one line

-- a mark, a name with its escapes, and the newline
abbrev pub name_line : List ℕ → List ℕ → List ℕ
name_line mark name = mark ++ escape name ++ newline ∷ []

-- a mark, a number in decimal digits, and the newline
abbrev pub number_line : List ℕ → ℕ → List ℕ
number_line mark n = mark ++ decimal n ++ newline ∷ []

-- ---- one row

-- whether the row before is of the same field
abbrev pub is_in_field : Option Row → Row → Bool
is_in_field None r = false
is_in_field (Some before) r = bytes_eq before.field r.field

-- whether the row before is of the same term of the same field
abbrev pub is_in_term : Option Row → Row → Bool
is_in_term None r = false
is_in_term (Some before) r = bytes_eq before.field r.field && bytes_eq before.term r.term

abbrev pub field_lines : Option Row → Row → List ℕ
field_lines before r = if is_in_field before r then [] else name_line (codes "field ") r.field

abbrev pub term_lines : Option Row → Row → List ℕ
term_lines before r = if is_in_term before r then [] else name_line (codes "  term ") r.term

abbrev pub frequency_line : ℕ → List ℕ
frequency_line n = number_line (codes "      freq ") n

abbrev pub position_line : ℕ → List ℕ
position_line p = number_line (codes "      pos ") p

-- nothing, or the number of the positions and a line for each
abbrev pub position_lines : List ℕ → List ℕ
position_lines [] = []
position_lines (p ∷ ps) = frequency_line (length (p ∷ ps)) ++ flat_map position_line (p ∷ ps)

abbrev pub row_lines : Option Row → Row → List ℕ
row_lines before r = field_lines before r ++ term_lines before r ++ number_line (codes "    doc ") r.doc ++ position_lines r.positions

-- ---- all rows

abbrev pub rows_lines : Option Row → List Row → List ℕ
rows_lines before [] = []
rows_lines before (r ∷ rows) = row_lines before r ++ rows_lines (Some r) rows

abbrev pub written : List Row → List ℕ
written rows = rows_lines None rows ++ codes "END\nchecksum 00000000000000000000\n"
