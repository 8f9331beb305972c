-- What a search and a fetch give, over whole files.
use Rattle.std.specs.Prelude.{ℕ, ◌+◌, ◌==◌, List, [], ◌∷◌, ◌++◌, map, filter, Bool, nat_lt, Option, Some, None, Result, Ok, Err, if◌then◌else◌, slice_get}
use Rattle.std.specs.List.{list_any, range_with_len}
use Rattle.mount_manifest.specs.declared.record.Segment.{Segment}
use Rattle.simpletext_postings.specs.Postings.{postings}
use Rattle.simpletext_postings.specs.Rows.{has_row}
use Rattle.simpletext_postings.specs.declared.rows.Row.{Row}
use Rattle.simpletext_stored.specs.Stored.{stored}
use Rattle.simpletext_stored.specs.Live.{live}
use Rattle.simpletext_stored.specs.declared.field.StoredField.{StoredField}
use Rattle.query_lang.specs.Trees.{Tree}
use Rattle.shard_search.specs.Matches.{matches}

-- a file, by its number, and the place of its first line that is not allowed
pub record BadFile : Type 0 where
  pub file : ℕ
  pub at : ℕ

infixl 10 ◌>>=◌
abbrev pub ◌>>=◌ : {A B : Type 0} → Result A BadFile → (A → Result B BadFile) → Result B BadFile
(Ok x) >>= f = f x
(Err b) >>= f = Err b

-- what a text says, or its file and place
abbrev pub in_file : {A : Type 0} → ℕ → Result A ℕ → Result A BadFile
in_file f (Ok x) = Ok x
in_file f (Err at) = Err (record { file = f; at = at })

-- whether document d has the term v in the field f, by these rows
abbrev pub has_in : List Row → List ℕ → List ℕ → ℕ → Bool
has_in rows field value d = has_row field value rows d

-- the live documents among so many: all, where there is no file of them
abbrev pub live_in : (ℕ → List ℕ) → ℕ → Option ℕ → Result (List ℕ) BadFile
live_in bytes docs None = Ok (range_with_len 0 docs)
live_in bytes docs (Some f) = in_file f (live (bytes f) docs)

-- the live documents of a segment that match; its postings are read before its live documents
abbrev pub segment_docs : (ℕ → List ℕ) → Tree → Segment → Result (List ℕ) BadFile
segment_docs bytes q s =
    in_file s.postings (postings (bytes s.postings) s.docs) >>= (λ rows.
    live_in bytes s.docs s.live >>= (λ docs.
    Ok (filter (matches (has_in rows) q) docs)))

abbrev pub pair : ℕ → ℕ → ℕ × ℕ
pair n d = (n, d)

-- the hits (segment, document) of the segments from number n on, or the first bad file
abbrev pub hits_from : (ℕ → List ℕ) → Tree → ℕ → List Segment → Result (List (ℕ × ℕ)) BadFile
hits_from bytes q n [] = Ok []
hits_from bytes q n (s ∷ ss) =
    segment_docs bytes q s >>= (λ docs. hits_from bytes q (n + 1) ss >>= (λ more. Ok (map (pair n) docs ++ more)))

-- the hits of a query over all segments, in order
abbrev pub hits : (ℕ → List ℕ) → Tree → List Segment → Result (List (ℕ × ℕ)) BadFile
hits bytes q segments = hits_from bytes q 0 segments

-- ---- one document

-- the fields of a document of these, where it is live
abbrev pub fields_of : List (List StoredField) → ℕ → List ℕ → Option (List StoredField)
fields_of documents d live = if list_any (λ e. e == d) live then slice_get documents d else None

-- the stored fields of document d of a segment, whose file of them is `file`: none where the number is not below the
-- count, whatever the files say; then the file of stored fields is read, then that of the live documents
abbrev pub document : (ℕ → List ℕ) → ℕ → Segment → ℕ → Result (Option (List StoredField)) BadFile
document bytes file s d =
    if nat_lt d s.docs then
    in_file file (stored (bytes file) s.docs) >>= (λ documents.
    live_in bytes s.docs s.live >>= (λ docs.
    Ok (fields_of documents d docs)))
    else Ok None

-- the same of the segment of that number, where it has a file of stored fields
abbrev pub document_with : (ℕ → List ℕ) → Option ℕ → Segment → ℕ → Result (Option (List StoredField)) BadFile
document_with bytes None s d = Ok None
document_with bytes (Some file) s d = document bytes file s d

abbrev pub document_in : (ℕ → List ℕ) → Option Segment → ℕ → Result (Option (List StoredField)) BadFile
document_in bytes None d = Ok None
document_in bytes (Some s) d = document_with bytes s.stored s d
