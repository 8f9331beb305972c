-- The bytes of the files of an archive's manifests, and whether their parts are there.
use Rattle.std.specs.Prelude.{ℕ, ◌==◌, List, [], ◌∷◌, length, take, drop, map, Option, Some, None, unwrap_or, is_none, if◌then◌else◌, slice_get, Result, Ok, Err}
use Rattle.std.specs.List.{concat, range_with_len, flat_map}
use Rattle.cache_outside.specs.Listing.{Listing, manifests, place_of, blob_bytes}
use Rattle.mount_manifest.specs.declared.record.FileRecord.{FileRecord}
use Rattle.mount_manifest.specs.declared.error.ManifestError.{ManifestError}
use Rattle.mount_manifest.specs.Manifest.{manifest, Facts}
use Rattle.mount_manifest.specs.Parts.{parts_of, part_name, part_length}

-- ---- what a manifest of the archive tells

abbrev pub text_of : Option (List ℕ × List ℕ) → List ℕ
text_of None = []
text_of (Some blob) = blob.1

-- what manifest number m tells, or the first refusal of its text
abbrev pub manifest_at : Listing → ℕ → Result Facts ManifestError
manifest_at blobs m = manifest (text_of (slice_get (manifests blobs) m))

abbrev pub files_of : Result Facts ManifestError → List FileRecord
files_of (Ok facts) = facts.files
files_of (Err e) = []

-- its files, none where it is refused
abbrev pub files_at : Listing → ℕ → List FileRecord
files_at blobs m = files_of (manifest_at blobs m)

-- ---- the bytes of a file

-- the numbers of a file's parts
abbrev pub part_numbers : FileRecord → List ℕ
part_numbers f = range_with_len 0 (parts_of f)

-- the number of the blob with this name, or one that no blob has
abbrev pub blob_named : Listing → List ℕ → ℕ
blob_named blobs name = unwrap_or (place_of name blobs) (length blobs)

-- the blob of part k of a file
abbrev pub part_blob : Listing → FileRecord → ℕ → ℕ
part_blob blobs f k = blob_named blobs (part_name f k)

-- the bytes of part k of a file
abbrev pub part_bytes : Listing → FileRecord → ℕ → List ℕ
part_bytes blobs f k = blob_bytes blobs (part_blob blobs f k)

-- the bytes of a file: those of its parts, joined in order
abbrev pub file_bytes : Listing → FileRecord → List ℕ
file_bytes blobs f = concat (map (part_bytes blobs f) (part_numbers f))

abbrev pub bytes_of : Listing → Option FileRecord → List ℕ
bytes_of blobs None = []
bytes_of blobs (Some f) = file_bytes blobs f

-- the bytes of file f of manifest number m
abbrev pub content : Listing → ℕ → ℕ → List ℕ
content blobs m f = bytes_of blobs (slice_get (files_at blobs m) f)

-- `n` bytes, or places of bytes, from the place `at` on
abbrev pub slice_of : {X : Type 0} → List X → ℕ → ℕ → List X
slice_of xs at n = take n (drop at xs)

-- ---- the place of each byte

abbrev pub place_in : ℕ → ℕ → ℕ × ℕ
place_in blob i = (blob, i)

-- the bytes `at` to `at + n` of a blob, each by blob and place
abbrev pub places : ℕ → ℕ → ℕ → List (ℕ × ℕ)
places blob at n = map (place_in blob) (range_with_len at n)

abbrev pub part_places : Listing → FileRecord → ℕ → List (ℕ × ℕ)
part_places blobs f k = places (part_blob blobs f k) 0 (length (part_bytes blobs f k))

abbrev pub places_of : Listing → Option FileRecord → List (ℕ × ℕ)
places_of blobs None = []
places_of blobs (Some f) = flat_map (part_places blobs f) (part_numbers f)

-- blob and place of each byte of file f of manifest number m, in order
abbrev pub content_places : Listing → ℕ → ℕ → List (ℕ × ℕ)
content_places blobs m f = places_of blobs (slice_get (files_at blobs m) f)

-- blob and place of byte i
abbrev pub where_at : Listing → ℕ → ℕ → ℕ → Option (ℕ × ℕ)
where_at blobs m f i = slice_get (content_places blobs m f) i

abbrev pub spread_one : ℕ × ℕ × ℕ → List (ℕ × ℕ)
spread_one read = places read.0 read.1 read.2

-- the single bytes, by blob and place, of a list of reads (blob, place, count), in order
abbrev pub spread : List (ℕ × ℕ × ℕ) → List (ℕ × ℕ)
spread reads = flat_map spread_one reads

-- ---- whether the parts are there

-- a part that is missing, or one of another size than its file says: the size that it has, and the expected one
pub data PartRefusal : Type 0 where
  no_part : List ℕ → PartRefusal
  other_size : List ℕ → ℕ → ℕ → PartRefusal

abbrev pub or_else : {A : Type 0} → Option A → Option A → Option A
or_else None later = later
or_else (Some x) later = Some x

-- what the first of a list for which there is something gives
abbrev pub first_of : {A B : Type 0} → (A → Option B) → List A → Option B
first_of f [] = None
first_of f (x ∷ xs) = or_else (f x) (first_of f xs)

abbrev pub missing_part : Listing → FileRecord → ℕ → Option PartRefusal
missing_part blobs f k = if is_none (place_of (part_name f k) blobs) then Some (no_part (part_name f k)) else None

abbrev pub size_refusal : List ℕ → ℕ → ℕ → Option PartRefusal
size_refusal name size expected = if size == expected then None else Some (other_size name size expected)

abbrev pub wrong_part : Listing → FileRecord → ℕ → Option PartRefusal
wrong_part blobs f k = size_refusal (part_name f k) (length (part_bytes blobs f k)) (part_length f.length f.part_size k)

abbrev pub missing_in : Listing → FileRecord → Option PartRefusal
missing_in blobs f = first_of (missing_part blobs f) (part_numbers f)

abbrev pub wrong_in : Listing → FileRecord → Option PartRefusal
wrong_in blobs f = first_of (wrong_part blobs f) (part_numbers f)

-- in order of files and parts: the first part that is missing, else the first of another size
abbrev pub part_refusal : Listing → List FileRecord → Option PartRefusal
part_refusal blobs files = or_else (first_of (missing_in blobs) files) (first_of (wrong_in blobs) files)
