-- Reading texts line by line: what is kept, and the lines of one document by themselves.
use Rattle.std.specs.Prelude.{ℕ, ◌≡◌, ◌≤◌, ◌+◌, ◌==◌, ◌&&◌, ◌||◌, Bool, true, false, List, [], ◌∷◌, ◌++◌, length, drop, Option, Result}
use Rattle.directory_input.specs.Windows.{Window}
use Rattle.simpletext_stored.specs.Reading.{Lines, lines_of, map_ok}
use Rattle.simpletext_stored.specs.Stored.{form_of, line_places, last, doc_count, is_allowed, is_start, is_between, is_field, is_name, is_type, is_end, is_checksum_line}
use Rattle.simpletext_stored.specs.declared.field.Kind.{Kind}
use Rattle.simpletext_stored.specs.declared.field.Kind.TheVariants.{Str}
use Rattle.simpletext_stored.specs.declared.field.StoredField.{StoredField}
use Rattle.simpletext_stored.specs.declared.form.Form.{Form}
use Rattle.simpletext_stored.specs.declared.state.State.{State}
use Rattle.simpletext_stored.specs.declared.form.Form.TheVariants.{Doc, Field, Name, OfType, Value, End, Checksum, Unknown}

-- ---- the places of an index

-- places do not fall, and the last is at most `end`
abbrev pub AreRising : List ℕ → ℕ → Type 0
AreRising [] end = Unit {0}
AreRising (p ∷ []) end = p ≤ end
AreRising (p ∷ q ∷ places) end = (p ≤ q) × AreRising (q ∷ places) end

-- what an index keeps
pub record IsIndexed (input : Window) (docs : ℕ) (places : List ℕ) : Type 0 where
  pub whole : length places ≡ docs + 1
  pub rising : AreRising places input.size

-- ---- the lines of one document by themselves

-- whether a line may stand after these, where the document's number is `doc`
abbrev pub is_own : ℕ → List Form → Form → Bool
is_own doc past (Doc n) = is_start (last past) && (n == doc)
is_own doc past Field = is_between (last past)
is_own doc past Name = is_field (last past)
is_own doc past (OfType kind) = is_name (last past)
is_own doc past Value = is_type (last past)
is_own doc past End = false
is_own doc past Checksum = false
is_own doc past Unknown = false

abbrev pub is_whole : List Form → Bool
is_whole past = is_between (last past)

-- the fields of one document alone, after a name and a kind
abbrev pub all_fields : List ℕ → Kind → Lines Form → List StoredField
all_fields name kind [] = []
all_fields name kind ((at, Name, l) ∷ later) = all_fields (drop 9 l) kind later
all_fields name kind ((at, OfType k, l) ∷ later) = all_fields name k later
all_fields name kind ((at, Value, l) ∷ later) = record { name = name; kind = kind; value = drop 10 l } ∷ all_fields name kind later
all_fields name kind (_ ∷ later) = all_fields name kind later

-- the fields of a document from its lines, or the place of the first of them that is not allowed
abbrev pub document_of : ℕ → List ℕ → Result (List StoredField) ℕ
document_of doc text = map_ok (all_fields [] Str) (lines_of form_of (is_own doc) is_whole text)

-- ---- the state of a reader after the lines of `past`

-- the documents are over
abbrev pub is_over : Option Form → Bool
is_over o = is_end o || is_checksum_line o

pub record IsStateOf (docs : ℕ) (past : List Form) (state : State) : Type 0 where
  pub last_is : state.last ≡ last past
  pub count : is_over (last past) ≡ false → length state.places.items ≡ doc_count past
  pub over : is_over (last past) ≡ true → length state.places.items ≡ docs + 1

-- the place of a line that begins a document, and of the END line
abbrev pub own_place : ℕ → Form → List ℕ
own_place at (Doc n) = at ∷ []
own_place at End = at ∷ []
own_place at _ = []

-- the answer says whether the form is allowed, and then the state is that after it
pub record Step (docs : ℕ) (past : List Form) (at : ℕ) (form : Form) (old new : State) (answer : Bool) : Type 0 where
  pub same : answer ≡ is_allowed docs past form
  pub after : answer ≡ true → IsStateOf docs (form ∷ past) new
  pub places : answer ≡ true → new.places.items ≡ old.places.items ++ own_place at form

-- what is held of the lines in `kept`, where the next one begins at the place `at`
pub record HoldsPlaces (docs : ℕ) (past : List Form) (kept : Lines Form) (at : ℕ) (state : State) : Type 0 where
  pub is : IsStateOf docs past state
  pub rising : AreRising state.places.items at
  pub places : state.places.items ≡ line_places kept
