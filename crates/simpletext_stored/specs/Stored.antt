-- What a text of stored fields says: the fields of each document, or the place of the first line that is not allowed
-- after those before it.
use Rattle.std.specs.Prelude.{ℕ, ◌+◌, ◌&&◌, ◌||◌, ◌==◌, List, [], ◌∷◌, drop, Bool, true, false, nat_lt, Option, Some, None, Result, if◌then◌else◌, codes}
use Rattle.std.specs.Str.{bytes_eq}
use Rattle.text_lines.specs.Words.{begins, number, is_checksum}
use Rattle.simpletext_stored.specs.Reading.{Lines, lines_of, map_ok}
use Rattle.simpletext_stored.specs.declared.field.Kind.{Kind}
use Rattle.simpletext_stored.specs.declared.field.Kind.TheVariants.{Str, Binary, Int, Long, Float, Double}
use Rattle.simpletext_stored.specs.declared.field.StoredField.{StoredField}
use Rattle.simpletext_stored.specs.declared.form.Form.{Form}
use Rattle.simpletext_stored.specs.declared.form.Form.TheVariants.{Doc, Field, Name, OfType, Value, End, Checksum, Unknown}

-- ---- the form of a line, by its content

abbrev pub kind_of : List ℕ → Option Kind
kind_of word =
    if bytes_eq word (codes "string") then Some Str
    else if bytes_eq word (codes "binary") then Some Binary
    else if bytes_eq word (codes "int") then Some Int
    else if bytes_eq word (codes "long") then Some Long
    else if bytes_eq word (codes "float") then Some Float
    else if bytes_eq word (codes "double") then Some Double
    else None

abbrev pub doc_of : Option ℕ → Form
doc_of None = Unknown
doc_of (Some n) = Doc n

abbrev pub field_of : Option ℕ → Form
field_of None = Unknown
field_of (Some n) = Field

abbrev pub type_of : Option Kind → Form
type_of None = Unknown
type_of (Some kind) = OfType kind

unfoldable pub form_of : List ℕ → Form
form_of s =
    if begins (codes "doc ") s then doc_of (number (drop 4 s))
    else if begins (codes "  field ") s then field_of (number (drop 8 s))
    else if begins (codes "    name ") s then Name
    else if begins (codes "    type ") s then type_of (kind_of (drop 9 s))
    else if begins (codes "    value ") s then Value
    else if bytes_eq s (codes "END") then End
    else if is_checksum s then Checksum
    else Unknown

-- ---- what stands before a line, the newest first

-- the last line
abbrev pub last : List Form → Option Form
last [] = None
last (f ∷ past) = Some f

-- how many documents have begun
abbrev pub doc_count : List Form → ℕ
doc_count [] = 0
doc_count (Doc n ∷ past) = doc_count past + 1
doc_count (_ ∷ past) = doc_count past

abbrev pub is_start : Option Form → Bool
is_start None = true
is_start _ = false

-- a document has begun, and no field of it is begun and not whole
abbrev pub is_between : Option Form → Bool
is_between (Some (Doc n)) = true
is_between (Some Value) = true
is_between _ = false

abbrev pub is_field : Option Form → Bool
is_field (Some Field) = true
is_field _ = false

abbrev pub is_name : Option Form → Bool
is_name (Some Name) = true
is_name _ = false

abbrev pub is_type : Option Form → Bool
is_type (Some (OfType kind)) = true
is_type _ = false

abbrev pub is_end : Option Form → Bool
is_end (Some End) = true
is_end _ = false

abbrev pub is_checksum_line : Option Form → Bool
is_checksum_line (Some Checksum) = true
is_checksum_line _ = false

-- ---- the table: whether a line may stand after these

abbrev pub is_allowed : ℕ → List Form → Form → Bool
is_allowed docs past (Doc n) = (is_start (last past) || is_between (last past)) && (n == doc_count past) && nat_lt n docs
is_allowed docs past Field = is_between (last past)
is_allowed docs past Name = is_field (last past)
is_allowed docs past (OfType kind) = is_name (last past)
is_allowed docs past Value = is_type (last past)
is_allowed docs past End = (is_start (last past) || is_between (last past)) && (doc_count past == docs)
is_allowed docs past Checksum = is_end (last past)
is_allowed docs past Unknown = false

-- a text ends after its checksum line
abbrev pub may_end : List Form → Bool
may_end past = is_checksum_line (last past)

-- ---- the documents

-- the fields that stand here up to the next document, after a name and a kind: a value line ends a field
abbrev pub own_fields : List ℕ → Kind → Lines Form → List StoredField
own_fields name kind [] = []
own_fields name kind ((at, Doc n, l) ∷ later) = []
own_fields name kind ((at, End, l) ∷ later) = []
own_fields name kind ((at, Name, l) ∷ later) = own_fields (drop 9 l) kind later
own_fields name kind ((at, OfType k, l) ∷ later) = own_fields name k later
own_fields name kind ((at, Value, l) ∷ later) = record { name = name; kind = kind; value = drop 10 l } ∷ own_fields name kind later
own_fields name kind (_ ∷ later) = own_fields name kind later

-- the fields of each document
abbrev pub documents : Lines Form → List (List StoredField)
documents [] = []
documents ((at, Doc n, l) ∷ later) = own_fields [] Str later ∷ documents later
documents (_ ∷ later) = documents later

-- where each document's `doc` line begins, and behind these where the END line does
abbrev pub line_places : Lines Form → List ℕ
line_places [] = []
line_places ((at, Doc n, l) ∷ later) = at ∷ line_places later
line_places ((at, End, l) ∷ later) = at ∷ line_places later
line_places (_ ∷ later) = line_places later

-- ---- the text

-- the lines of a text of stored fields of `docs` documents, or the place of its first line that is not allowed
abbrev pub stored_lines : List ℕ → ℕ → Result (Lines Form) ℕ
stored_lines text docs = lines_of form_of (is_allowed docs) may_end text

-- the fields of each of its documents
abbrev pub stored : List ℕ → ℕ → Result (List (List StoredField)) ℕ
stored text docs = map_ok documents (stored_lines text docs)

-- the places that an index keeps
abbrev pub stored_places : List ℕ → ℕ → Result (List ℕ) ℕ
stored_places text docs = map_ok line_places (stored_lines text docs)
