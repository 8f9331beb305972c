-- What the calls answer.
use Rattle.std.specs.Prelude.{ℕ, ◌≡◌, ◌<◌, ◌≤◌, ◌++◌, Bool, true, false, List, length, map, take, option_map, Option, Some, None, Result, Ok, Err, Vec, slice_get, slice_index_or, IsSome}
use Rattle.std.specs.List.{range_with_len}
use Rattle.std.specs.declared.alloc.Global.{Global}
use Rattle.directory_input.specs.declared.files.BytesError.{BytesError}
use Rattle.doc_bits.specs.Places.{places_of}
use Rattle.mount_manifest.specs.declared.record.Segment.{Segment}
use Rattle.simpletext_stored.specs.declared.field.StoredField.{StoredField}
use Rattle.text_lines.specs.declared.errors.TextError.{TextError}
use Rattle.text_lines.specs.declared.errors.TextError.TheVariants as text
use Rattle.shard_search.specs.Hits.{BadFile}
use Rattle.shard_search.specs.declared.error.SearchError.{SearchError}
use Rattle.shard_search.specs.declared.error.SearchError.TheVariants.{Bad, Bytes}
use Rattle.shard_search.specs.declared.hits.Hit.{Hit}
use Rattle.shard_search.specs.declared.hits.Hits.{Hits}

-- the refusal of the bytes that an answer is
abbrev pub search_refusal : {T : Type 0} → Result T SearchError → Option BytesError
search_refusal (Ok x) = None
search_refusal (Err (Bad f at)) = None
search_refusal (Err (Bytes e)) = Some e

-- what an answer says of what whole files give: a bad file and its place just so; a refusal of the bytes says nothing
abbrev pub RefusesBy : {T : Type 0} → SearchError → Result T BadFile → Type 0
RefusesBy (Bad f at) said = said ≡ Err (record { file = f; at = at })
RefusesBy (Bytes e) said = Unit {0}

abbrev pub hit : ℕ → ℕ → Hit
hit n d = record { segment = n; doc = d }

abbrev pub pair_of : Hit → ℕ × ℕ
pair_of h = (h.segment, h.doc)

-- the number of hits, and the first `size` of them
abbrev pub GivesHits : Result Hits SearchError → ℕ → Result (List (ℕ × ℕ)) BadFile → Type 0
GivesHits (Ok h) size said = (hs : List (ℕ × ℕ)) × (said ≡ Ok hs) × (h.total ≡ length hs) × (map pair_of h.list ≡ take size hs)
GivesHits (Err e) size said = RefusesBy e said

-- its segment is there, and its document is one of the segment's
abbrev pub IsHitOf : List Segment → Hit → Type 0
IsHitOf segments h = (s : Segment) × (slice_get segments h.segment ≡ Some s) × (h.doc < s.docs)

-- the set of a segment's documents that match and are live
abbrev pub GivesSet : Result (List Bool) SearchError → Result (List ℕ) BadFile → Type 0
GivesSet (Ok bits) said = said ≡ Ok (places_of bits)
GivesSet (Err e) said = RefusesBy e said

-- the fields of a document, or none
abbrev pub GivesDocument : Result (Option (Vec StoredField Global)) SearchError → Result (Option (List StoredField)) BadFile → Type 0
GivesDocument (Ok o) said = said ≡ Ok (option_map (λ v. v.items) o)
GivesDocument (Err e) said = RefusesBy e said

-- where the number is not below the segment's count, there is no such document, and nothing was read
abbrev pub IsBeyond : {S T : Type 0} → Option Segment → ℕ → Result (Option T) SearchError → S → S → Type 0
IsBeyond None d result before now = Unit {0}
IsBeyond (Some s) d result before now = s.docs ≤ d → (result ≡ Ok None) × (now ≡ before)

-- a refusal of the bytes, and none of a text
abbrev pub IsOfBytes : SearchError → Type 0
IsOfBytes (Bad f at) = ⊥
IsOfBytes (Bytes e) = Unit {0}

-- a refusal of a text names one of so many files
abbrev pub NamesFile : ℕ → SearchError → Type 0
NamesFile files (Bad f at) = f < files
NamesFile files (Bytes e) = Unit {0}

-- whether a document is live, where there is a file of them and where there is none
abbrev pub is_alive : Option (List Bool) → ℕ → Bool
is_alive None d = true
is_alive (Some bits) d = slice_index_or bits d false

-- that segment has a file of stored fields
abbrev pub HasStored : List Segment → ℕ → Type 0
HasStored segments n = (s : Segment) × (slice_get segments n ≡ Some s) × IsSome s.stored

-- the refusal of a text in its file
abbrev pub refused_in : ℕ → TextError → SearchError
refused_in f (text.Bad at) = Bad f at
refused_in f (text.Bytes e) = Bytes e

-- the hits found so far, in front of what the rest gives
abbrev pub put_hits : List (ℕ × ℕ) → Result (List (ℕ × ℕ)) BadFile → Result (List (ℕ × ℕ)) BadFile
put_hits front (Ok more) = Ok (front ++ more)
put_hits front (Err b) = Err b

-- a text was read whole, or its first line that is not allowed named
abbrev pub Opens : {S T : Type 0} → Result S SearchError → Result T BadFile → Type 0
Opens {T = T} (Ok x) said = (y : T) × (said ≡ Ok y)
Opens (Err e) said = RefusesBy e said

-- the set of the live documents among so many, where there is a file of them
abbrev pub GivesLive : Result (Option (List Bool)) SearchError → ℕ → Result (List ℕ) BadFile → Type 0
GivesLive (Ok None) docs said = said ≡ Ok (range_with_len 0 docs)
GivesLive (Ok (Some bits)) docs said = said ≡ Ok (places_of bits)
GivesLive (Err e) docs said = RefusesBy e said
