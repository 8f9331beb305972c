-- What the calls of this crate answer.
use Rattle.std.specs.Prelude.{ℕ, ◌≡◌, ◌<◌, ◌≤◌, ◌+◌, ◌-◌, Bool, IsTrue, List, slice_get, slice_index, Option, Some, None, Result, Ok, Err}
use Rattle.directory_input.specs.Files.{FilesView}
use Rattle.directory_input.specs.Windows.{Window, FitsFile, part_of, window_bytes}
use Rattle.directory_input.specs.declared.files.BytesError.{BytesError}
use Rattle.text_lines.specs.declared.errors.TextError.{TextError}
use Rattle.text_lines.specs.declared.errors.TextError.TheVariants.{Bad, Bytes}
use Rattle.doc_bits.specs.Places.{places_of}
use Rattle.simpletext_stored.specs.Stored.{stored_places}
use Rattle.simpletext_stored.specs.declared.field.StoredField.{StoredField}
use Rattle.simpletext_stored.specs.declared.error.StoredError.{StoredError}
use Rattle.simpletext_stored.specs.declared.error.StoredError.TheVariants.{NoDoc, Bad as BadLine, Bytes as OfBytes}

-- an index: the input that it was opened on, the number of documents, and the place where each document's `doc` line
-- begins, with that of the END line behind them
pub record StoredPlaces : Type 0 where
  pub input : Window
  pub docs : ℕ
  pub places : List ℕ

-- an index fits files where its input does and, where their bytes are told, the places are those of its text
pub record FitsStored (files : FilesView) (index : StoredPlaces) : Type 0 where
  pub file : FitsFile files index.input
  pub text : IsTrue files.tells → stored_places (window_bytes files.bytes index.input) index.docs ≡ Ok index.places

-- the part of the input that has a document's lines, from its `doc` line on
abbrev pub lines_of_document : StoredPlaces → ℕ → Window
lines_of_document index doc = part_of index.input (slice_index index.places doc) (slice_index index.places (doc + 1) - slice_index index.places doc)

-- a refusal, for what a text says: a bad line is the first that is not allowed there
abbrev pub Breaks : {T : Type 0} → Result T ℕ → TextError → Type 0
Breaks said (Bad at) = said ≡ Err at
Breaks said (Bytes e) = Unit {0}

-- what a text says is no refusal
abbrev pub IsSaid : {T : Type 0} → Result T ℕ → Type 0
IsSaid (Ok x) = Unit {0}
IsSaid (Err at) = ⊥

-- the answer of opening, for what a text says
abbrev pub Opens : {S T : Type 0} → Result S TextError → Result T ℕ → Type 0
Opens (Ok x) said = IsSaid said
Opens (Err e) said = Breaks said e

-- the fields of a document, of those that the text says
abbrev pub HasDocument : Result (List (List StoredField)) ℕ → ℕ → List StoredField → Type 0
HasDocument (Ok documents) doc fields = slice_get documents doc ≡ Some fields
HasDocument (Err at) doc fields = ⊥

-- a refusal that finds no bad line
abbrev pub IsNotBad : StoredError → Type 0
IsNotBad (NoDoc d) = Unit {0}
IsNotBad (BadLine at) = ⊥
IsNotBad (OfBytes e) = Unit {0}

-- the answer of a fetch for the number of documents: a document that is not there is named, and only such a one
abbrev pub KnowsDocs : {T : Type 0} → Result T StoredError → (docs doc : ℕ) → Type 0
KnowsDocs (Ok fields) docs doc = doc < docs
KnowsDocs (Err (NoDoc d)) docs doc = (docs ≤ doc) × (d ≡ doc)
KnowsDocs (Err (BadLine at)) docs doc = doc < docs
KnowsDocs (Err (OfBytes e)) docs doc = doc < docs

-- the refusal of the bytes that an answer of a fetch is
abbrev pub stored_refusal : {T : Type 0} → Result T StoredError → Option BytesError
stored_refusal (Ok x) = None
stored_refusal (Err (NoDoc d)) = None
stored_refusal (Err (BadLine at)) = None
stored_refusal (Err (OfBytes e)) = Some e

-- the answer of reading live documents: the set of the numbers that the text says
abbrev pub GivesLive : Result (List Bool) TextError → Result (List ℕ) ℕ → Type 0
GivesLive (Ok bits) said = said ≡ Ok (places_of bits)
GivesLive (Err e) said = Breaks said e
