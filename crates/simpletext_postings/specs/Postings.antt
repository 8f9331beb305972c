-- What a postings text says: its rows, or the place of the first line that is not allowed after those before it.
use Rattle.std.specs.Prelude.{ℕ, ◌+◌, ◌&&◌, ◌||◌, ◌==◌, List, [], ◌∷◌, ◌++◌, drop, Bool, true, false, not, nat_lt, nat_le, Option, Some, None, is_some, Result, Ok, Err, if◌then◌else◌, codes}
use Rattle.std.specs.Ordering.{nat_cmp, is_lt}
use Rattle.std.specs.Cmp.Lexicographic.{slice_cmp}
use Rattle.std.specs.List.{list_any}
use Rattle.std.specs.Str.{bytes_eq}
use Rattle.text_lines.specs.Lines.{Taken, cut}
use Rattle.text_lines.specs.Words.{number, begins, is_above, is_checksum}
use Rattle.simpletext_postings.specs.Forms.{Form}
use Rattle.simpletext_postings.specs.Forms.{Field, Term, Doc, Freq, Pos, StartOffset, EndOffset, Payload, End, Checksum, Indented, Unknown}
use Rattle.simpletext_postings.specs.declared.rows.Row.{Row}

-- ---- the form of a line, by its content

-- a line that goes on with a number, or of no form where it does not
abbrev pub doc_of : Option ℕ → Form
doc_of None = Unknown
doc_of (Some n) = Doc n

abbrev pub freq_of : Option ℕ → Form
freq_of None = Unknown
freq_of (Some n) = Freq n

abbrev pub pos_of : Option ℕ → Form
pos_of None = Unknown
pos_of (Some n) = Pos n

abbrev pub start_of : Option ℕ → Form
start_of None = Unknown
start_of (Some n) = StartOffset

abbrev pub end_of : Option ℕ → Form
end_of None = Unknown
end_of (Some n) = EndOffset

-- a line that begins with four blanks
unfoldable pub indented_form : List ℕ → Form
indented_form s =
    if begins (codes "    doc ") s then doc_of (number (drop 8 s))
    else if begins (codes "      freq ") s then freq_of (number (drop 11 s))
    else if begins (codes "      pos ") s then pos_of (number (drop 10 s))
    else if begins (codes "      startOffset ") s then start_of (number (drop 18 s))
    else if begins (codes "      endOffset ") s then end_of (number (drop 16 s))
    else if begins (codes "        payload ") s then Payload
    else Indented

unfoldable pub form_of : List ℕ → Form
form_of s =
    if begins (codes "field ") s then Field (drop 6 s)
    else if begins (codes "  term ") s then Term (drop 7 s)
    else if begins (codes "    ") s then indented_form s
    else if bytes_eq s (codes "END") then End
    else if is_checksum s then Checksum
    else Unknown

-- ---- what stands before a line, the newest first; lines that are passed over are left out

-- the names of the fields, in order
abbrev pub fields : List Form → List (List ℕ)
fields [] = []
fields (Field f ∷ past) = fields past ++ f ∷ []
fields (_ ∷ past) = fields past

-- the field
abbrev pub last_field : List Form → List ℕ
last_field [] = []
last_field (Field f ∷ past) = f
last_field (_ ∷ past) = last_field past

-- the last term of the field
abbrev pub last_term : List Form → Option (List ℕ)
last_term [] = None
last_term (Field f ∷ past) = None
last_term (Term t ∷ past) = Some t
last_term (_ ∷ past) = last_term past

-- the last document of the term
abbrev pub last_doc : List Form → Option ℕ
last_doc [] = None
last_doc (Field f ∷ past) = None
last_doc (Term t ∷ past) = None
last_doc (Doc d ∷ past) = Some d
last_doc (_ ∷ past) = last_doc past

-- the last position of the document
abbrev pub last_position : List Form → Option ℕ
last_position [] = None
last_position (Doc d ∷ past) = None
last_position (Pos p ∷ past) = Some p
last_position (_ ∷ past) = last_position past

-- how many positions the document has so far
abbrev pub position_count : List Form → ℕ
position_count [] = 0
position_count (Doc d ∷ past) = 0
position_count (Pos p ∷ past) = position_count past + 1
position_count (_ ∷ past) = position_count past

-- the document's frequency, or 0 where none is said
abbrev pub frequency : List Form → ℕ
frequency [] = 0
frequency (Doc d ∷ past) = 0
frequency (Freq n ∷ past) = n
frequency (_ ∷ past) = frequency past

abbrev pub is_not_below : Option ℕ → ℕ → Bool
is_not_below None n = true
is_not_below (Some m) n = nat_le m n

-- by bytes
abbrev pub is_term_above : Option (List ℕ) → List ℕ → Bool
is_term_above None t = true
is_term_above (Some s) t = is_lt (slice_cmp nat_cmp s t)

abbrev pub at_start : List Form → Bool
at_start [] = true
at_start _ = false

abbrev pub at_field_or_term : List Form → Bool
at_field_or_term (Field f ∷ past) = true
at_field_or_term (Term t ∷ past) = true
at_field_or_term _ = false

abbrev pub at_term : List Form → Bool
at_term (Term t ∷ past) = true
at_term _ = false

abbrev pub at_doc : List Form → Bool
at_doc (Doc d ∷ past) = true
at_doc _ = false

abbrev pub at_freq : List Form → Bool
at_freq (Freq n ∷ past) = true
at_freq _ = false

abbrev pub at_pos : List Form → Bool
at_pos (Pos p ∷ past) = true
at_pos _ = false

abbrev pub at_start_offset : List Form → Bool
at_start_offset (StartOffset ∷ past) = true
at_start_offset _ = false

abbrev pub at_end_offset : List Form → Bool
at_end_offset (EndOffset ∷ past) = true
at_end_offset _ = false

abbrev pub at_end : List Form → Bool
at_end (End ∷ past) = true
at_end _ = false

abbrev pub at_checksum : List Form → Bool
at_checksum (Checksum ∷ past) = true
at_checksum _ = false

-- a position is whole here: its last line is no startOffset line
abbrev pub ends_position : List Form → Bool
ends_position (Pos p ∷ past) = true
ends_position (EndOffset ∷ past) = true
ends_position (Payload ∷ past) = true
ends_position _ = false

-- a document entry is whole here: it has no frequency, or a frequency and no position, or as many whole positions
abbrev pub ends_entry : List Form → Bool
ends_entry (Doc d ∷ past) = true
ends_entry (Freq n ∷ past) = true
ends_entry past = ends_position past && (position_count past == frequency past)

-- ---- the table: whether a line may stand after these

abbrev pub may_begin_field : List Form → Bool
may_begin_field past = at_start past || at_field_or_term past || ends_entry past

abbrev pub is_allowed : ℕ → List Form → Form → Bool
is_allowed docs past (Field f) = may_begin_field past && not (list_any (bytes_eq f) (fields past))
is_allowed docs past (Term t) = (at_field_or_term past || ends_entry past) && is_term_above (last_term past) t
is_allowed docs past (Doc d) = (at_term past || ends_entry past) && nat_lt d docs && is_above (last_doc past) d
is_allowed docs past (Freq n) = at_doc past && nat_lt 0 n
is_allowed docs past (Pos p) = (at_freq past || ends_position past) && nat_lt (position_count past) (frequency past) && is_not_below (last_position past) p
is_allowed docs past StartOffset = at_pos past
is_allowed docs past EndOffset = at_start_offset past
is_allowed docs past Payload = at_pos past || at_end_offset past
is_allowed docs past End = may_begin_field past
is_allowed docs past Checksum = at_end past
is_allowed docs past Indented = false
is_allowed docs past Unknown = false

-- after a term line and before the next term, field or END line, a line that begins with four blanks and has none
-- of the forms is passed over
abbrev pub is_passed : List Form → Form → Bool
is_passed past Indented = is_some (last_term past) && not (at_end past) && not (at_checksum past)
is_passed past _ = false

-- ---- the rows

-- the positions that stand before the next document, term or field
abbrev pub own_positions : List Form → List ℕ
own_positions [] = []
own_positions (Doc d ∷ later) = []
own_positions (Term t ∷ later) = []
own_positions (Field f ∷ later) = []
own_positions (Pos p ∷ later) = p ∷ own_positions later
own_positions (_ ∷ later) = own_positions later

abbrev pub term_or_none : Option (List ℕ) → List ℕ
term_or_none None = []
term_or_none (Some t) = t

-- the row of a document entry that stands after `past`
abbrev pub row : List Form → ℕ → List ℕ → Row
row past d ps = record { field = last_field past; term = term_or_none (last_term past); doc = d; positions = ps }

-- a row for each document entry of `later`, which stands after `past`
abbrev pub rows_after : List Form → List Form → List Row
rows_after past [] = []
rows_after past (Doc d ∷ later) = row past d (own_positions later) ∷ rows_after (Doc d ∷ past) later
rows_after past (f ∷ later) = rows_after (f ∷ past) later

-- ---- the text

abbrev pub in_front : Form → Result (List Form) ℕ → Result (List Form) ℕ
in_front f (Ok fs) = Ok (f ∷ fs)
in_front f (Err at) = Err at

-- the lines from a place on, after those in `past`: their forms, or the place of the first line that is not allowed.
-- A line has at most 16777216 bytes with its newline. The last line is the checksum line, and nothing stands after it.
abbrev pub forms_after : ℕ → List Form → ℕ → List Taken → Taken → Result (List Form) ℕ
forms_after docs past at [] tail = if (tail.size == 0) && at_checksum past then Ok [] else Err at
forms_after docs past at (l ∷ ls) tail =
    if nat_lt 16777216 l.size then Err at
    else if is_passed past (form_of l.content) then forms_after docs past (at + l.size) ls tail
    else if is_allowed docs past (form_of l.content) then in_front (form_of l.content) (forms_after docs (form_of l.content ∷ past) (at + l.size) ls tail)
    else Err at

abbrev pub rows_of : Result (List Form) ℕ → Result (List Row) ℕ
rows_of (Ok forms) = Ok (rows_after [] forms)
rows_of (Err at) = Err at

-- the rows of a postings text of a segment of `docs` documents, or the place of its first line that is not allowed
abbrev pub postings : List ℕ → ℕ → Result (List Row) ℕ
postings text docs = rows_of (forms_after docs [] 0 (cut text).lines (cut text).tail)
