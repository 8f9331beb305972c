-- What a text of live documents says: their numbers, or the place of the first line that is not allowed after those
-- before it.
use Rattle.std.specs.Prelude.{ℕ, ◌&&◌, ◌==◌, List, [], ◌∷◌, drop, Bool, true, false, nat_lt, Option, Some, None, Result, if◌then◌else◌, codes}
use Rattle.std.specs.Str.{bytes_eq}
use Rattle.text_lines.specs.Words.{begins, number, is_above, is_checksum}
use Rattle.simpletext_stored.specs.Reading.{Lines, lines_of, map_ok}
use Rattle.simpletext_stored.specs.declared.live_form.LiveForm.{LiveForm}
use Rattle.simpletext_stored.specs.declared.live_form.LiveForm.TheVariants.{Size, Doc, End, Checksum, Unknown}

-- ---- the form of a line, by its content

abbrev pub size_of : Option ℕ → LiveForm
size_of None = Unknown
size_of (Some n) = Size n

abbrev pub doc_of : Option ℕ → LiveForm
doc_of None = Unknown
doc_of (Some n) = Doc n

unfoldable pub form_of : List ℕ → LiveForm
form_of s =
    if begins (codes "size ") s then size_of (number (drop 5 s))
    else if begins (codes "  doc ") s then doc_of (number (drop 6 s))
    else if bytes_eq s (codes "END") then End
    else if is_checksum s then Checksum
    else Unknown

-- ---- what stands before a line, the newest first

abbrev pub last : List LiveForm → Option LiveForm
last [] = None
last (f ∷ past) = Some f

-- the last document
abbrev pub last_doc : List LiveForm → Option ℕ
last_doc [] = None
last_doc (Doc n ∷ past) = Some n
last_doc (_ ∷ past) = last_doc past

abbrev pub is_start : Option LiveForm → Bool
is_start None = true
is_start _ = false

abbrev pub is_listing : Option LiveForm → Bool
is_listing (Some (Size n)) = true
is_listing (Some (Doc n)) = true
is_listing _ = false

abbrev pub is_end : Option LiveForm → Bool
is_end (Some End) = true
is_end _ = false

abbrev pub is_checksum_line : Option LiveForm → Bool
is_checksum_line (Some Checksum) = true
is_checksum_line _ = false

-- ---- the table: whether a line may stand after these

abbrev pub is_allowed : ℕ → List LiveForm → LiveForm → Bool
is_allowed docs past (Size n) = is_start (last past) && (n == docs)
is_allowed docs past (Doc n) = is_listing (last past) && nat_lt n docs && is_above (last_doc past) n
is_allowed docs past End = is_listing (last past)
is_allowed docs past Checksum = is_end (last past)
is_allowed docs past Unknown = false

abbrev pub may_end : List LiveForm → Bool
may_end past = is_checksum_line (last past)

-- ---- the text

abbrev pub doc_numbers : Lines LiveForm → List ℕ
doc_numbers [] = []
doc_numbers ((at, Doc n, l) ∷ later) = n ∷ doc_numbers later
doc_numbers (_ ∷ later) = doc_numbers later

abbrev pub live_lines : List ℕ → ℕ → Result (Lines LiveForm) ℕ
live_lines text docs = lines_of form_of (is_allowed docs) may_end text

-- the live documents of a segment of `docs` documents, or the place of the text's first line that is not allowed
abbrev pub live : List ℕ → ℕ → Result (List ℕ) ℕ
live text docs = map_ok doc_numbers (live_lines text docs)
