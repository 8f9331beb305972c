-- Rows of postings: what a list of them keeps, and the documents of a term.
use Rattle.std.specs.Prelude.{ℕ, ◌+◌, ◌<◌, ◌≤◌, ◌==◌, ◌&&◌, ◌||◌, ◌^◌, List, [], ◌∷◌, length, Bool, true, not, nat_lt, nat_le, if◌then◌else◌}
use Rattle.std.specs.Ordering.{nat_cmp, is_lt}
use Rattle.std.specs.Cmp.Lexicographic.{slice_cmp}
use Rattle.std.specs.List.{list_all, list_any}
use Rattle.std.specs.Str.{bytes_eq}
use Rattle.text_lines.specs.Escapes.{escape}
use Rattle.simpletext_postings.specs.declared.rows.Row.{Row}

-- the number of documents that rows were made for, and the rows in order
pub record PostingsRows : Type 0 where
  pub docs : ℕ
  pub rows : List Row

-- ---- the documents of a (field, term)

abbrev pub is_of : List ℕ → List ℕ → Row → Bool
is_of field term r = bytes_eq r.field field && bytes_eq r.term term

-- whether a document has a term in a field
abbrev pub has_row : List ℕ → List ℕ → List Row → ℕ → Bool
has_row field term rows d = list_any (λ r. is_of field term r && (r.doc == d)) rows

-- numbers that rise, from `low` on and below `docs`
abbrev pub RiseWithin : ℕ → ℕ → List ℕ → Type 0
RiseWithin low docs [] = Unit {0}
RiseWithin low docs (d ∷ ds) = (low ≤ d) × (d < docs) × RiseWithin (d + 1) docs ds

-- ---- rows that can be written as a postings text

-- positions that do not fall
abbrev pub is_not_falling : List ℕ → Bool
is_not_falling [] = true
is_not_falling (p ∷ ps) = list_all (nat_le p) ps && is_not_falling ps

abbrev pub is_small : ℕ → Bool
is_small n = nat_lt n (2 ^ 31)

abbrev pub are_positions : List ℕ → Bool
are_positions ps = is_small (length ps) && list_all is_small ps && is_not_falling ps

-- the line of a name after a mark of some bytes has at most 16777216 bytes with its escapes and its newline
abbrev pub fits_line : ℕ → List ℕ → Bool
fits_line mark name = nat_le (mark + length (escape name) + 1) 16777216

-- a row by itself, for a number of documents
abbrev pub is_row : ℕ → Row → Bool
is_row docs r = nat_lt r.doc docs && is_small r.doc && are_positions r.positions && fits_line 6 r.field && fits_line 7 r.term

-- a later row of a field: a later document of the term, or a term that is above it by bytes
abbrev pub is_later : Row → Row → Bool
is_later p r = (bytes_eq p.term r.term && nat_lt p.doc r.doc) || is_lt (slice_cmp nat_cmp p.term r.term)

abbrev pub has_field : List ℕ → Row → Bool
has_field field r = bytes_eq r.field field

-- a row may stand after others, the newest first: it is a later row of the last one's field, or its field has none
abbrev pub may_follow : List Row → Row → Bool
may_follow [] r = true
may_follow (p ∷ before) r = if has_field r.field p then is_later p r else not (list_any (has_field r.field) before)

abbrev pub each_follows : List Row → List Row → Bool
each_follows before [] = true
each_follows before (r ∷ rows) = may_follow before r && each_follows (r ∷ before) rows

-- each field's rows stand together, its terms rise, and each term's documents rise
abbrev pub are_rows : ℕ → List Row → Bool
are_rows docs rows = list_all (is_row docs) rows && each_follows [] rows
