-- What the text of a manifest says, or the first refusal. Each pass goes through the whole text before the next begins:
-- size, JSON, form, limits, names that stand twice, files that are missing.
use Rattle.std.specs.Prelude.{ℕ, ◌+◌, ◌-◌, ◌&&◌, ◌||◌, ◌==◌, ◌^◌, min, max, List, [], ◌∷◌, ◌++◌, length, drop, Option, Some, None, option_and_then, unwrap_or, Result, Ok, Err, if◌then◌else◌, Bool, false, not, nat_lt, nat_le, nat_eq, codes, ⊤}
use Rattle.std.specs.List.{list_all, list_any, position_from, starts_with}
use Rattle.std.specs.Char.{is_ascii_digit}
use Rattle.std.specs.Str.{bytes_eq}
use Rattle.serde_json.specs.Data.{Data}
use Rattle.serde_json.specs.Find.{get, as_object}
use Rattle.mount_manifest.specs.Steps.{◌>>=◌, or_refuse, at_most, each}
use Rattle.mount_manifest.specs.Json.{json_of, whole_of, whole_at, name_of, name_at, optional, objects_at}
use Rattle.mount_manifest.specs.Parts.{parts_of}
use Rattle.mount_manifest.specs.declared.record.FileRecord.{FileRecord}
use Rattle.mount_manifest.specs.declared.record.NamedSegment.{NamedSegment}
use Rattle.mount_manifest.specs.declared.record.Segment.{Segment}
use Rattle.mount_manifest.specs.declared.error.Field.{Field}
use Rattle.mount_manifest.specs.declared.error.Field.TheVariants as field
use Rattle.mount_manifest.specs.declared.error.ManifestError.{ManifestError}
use Rattle.mount_manifest.specs.declared.error.ManifestError.TheVariants.{NotJson, Shape, Limit, Double, NoFile}

-- ---- the form

-- a member that is missing or not of its form
abbrev pub shape : {A : Type 0} → Field → Option A → Result A ManifestError
shape f o = or_refuse (Shape f) o

-- `.part` and one or more digits
abbrev pub is_part_end : List ℕ → Bool
is_part_end s = starts_with nat_eq s (codes ".part") && nat_lt 5 (length s) && list_all is_ascii_digit (drop 5 s)

-- some end of the bytes passes
abbrev pub ends_with : (List ℕ → Bool) → List ℕ → Bool
ends_with passes [] = false
ends_with passes (b ∷ bs) = passes (b ∷ bs) || ends_with passes bs

-- a name of data in the store: 3 to 200 bytes, begins with two underscores, and is no name of a part
abbrev pub is_file_name : List ℕ → Bool
is_file_name s = nat_le 3 (length s) && nat_le (length s) 200 && starts_with nat_eq s (codes "__") && not (ends_with is_part_end s)

abbrev pub file_name : List ℕ → Option (List ℕ)
file_name s = if is_file_name s then Some s else None

abbrev pub one : ℕ → Option ℕ
one n = if n == 1 then Some n else None

-- a file without part size is one part: its part size is its length, or 1 where the length is 0
unfoldable pub file_facts : Data → Result FileRecord ManifestError
file_facts d = do
  name ← shape field.Name (option_and_then file_name (name_at (codes "name") d))
  physical_name ← shape field.PhysicalName (name_at (codes "physical_name") d)
  size ← shape field.Length (whole_at (codes "length") d)
  part_size ← shape field.PartSize (optional whole_of (get (codes "part_size") d))
  Ok (record { name = name; physical_name = physical_name; length = size; part_size = unwrap_or part_size (max size 1) })

unfoldable pub segment_facts : Data → Result NamedSegment ManifestError
segment_facts d = do
  name ← shape field.Name (name_at (codes "name") d)
  docs ← shape field.Docs (whole_at (codes "docs") d)
  postings ← shape field.Postings (name_at (codes "postings") d)
  stored ← shape field.Stored (optional name_of (get (codes "stored") d))
  live ← shape field.Live (optional name_of (get (codes "live") d))
  Ok (record { name = name; docs = docs; postings = postings; stored = stored; live = live })

-- files, and segments whose files still are names
pub record Shaped : Type 0 where
  pub files : List FileRecord
  pub segments : List NamedSegment

unfoldable pub shaped : Data → Result Shaped ManifestError
shaped d = do
  members ← shape field.Manifest (as_object d)
  version ← shape field.Version (option_and_then one (whole_at (codes "version") d))
  file_list ← shape field.Files (objects_at (codes "files") d)
  files ← each file_facts file_list
  segment_list ← shape field.Segments (objects_at (codes "segments") d)
  segments ← each segment_facts segment_list
  Ok (record { files = files; segments = segments })

-- ---- the limits

-- the parts of the files so far, with this file, where `sum` is the number of those before; it stops at the greatest u64
abbrev pub sum_with : ℕ → FileRecord → ℕ
sum_with sum f = min (sum + parts_of f) (2 ^ 64 - 1)

abbrev pub not_zero : Field → ℕ → Result ⊤ ManifestError
not_zero field value = if value == 0 then Err (Limit field value) else Ok tt

unfoldable pub file_limits : ℕ → FileRecord → Result ℕ ManifestError
file_limits sum f = do
  short ← at_most 1099511623680 field.Length f.length
  cut ← not_zero field.PartSize f.part_size
  few ← at_most 1048576 field.Parts (sum_with sum f)
  Ok (sum_with sum f)

-- file by file; Ok gives the number of parts
abbrev pub all_file_limits : ℕ → List FileRecord → Result ℕ ManifestError
all_file_limits sum [] = Ok sum
all_file_limits sum (f ∷ fs) = file_limits sum f >>= (λ n. all_file_limits n fs)

abbrev pub segment_limits : NamedSegment → Result ⊤ ManifestError
segment_limits s = at_most 16777216 field.Docs s.docs

abbrev pub all_segment_limits : List NamedSegment → Result ⊤ ManifestError
all_segment_limits [] = Ok tt
all_segment_limits (s ∷ ss) = segment_limits s >>= (λ _. all_segment_limits ss)

-- ---- names that stand twice

-- the first that is the same as one before it is refused, by its name
abbrev pub no_doubles : {A : Type 0} → (A → A → Bool) → (A → List ℕ) → List A → List A → Result ⊤ ManifestError
no_doubles same name before [] = Ok tt
no_doubles same name before (x ∷ xs) =
    if list_any (same x) before then Err (Double (name x)) else no_doubles same name (before ++ x ∷ []) xs

abbrev pub same_file : FileRecord → FileRecord → Bool
same_file f g = bytes_eq f.physical_name g.physical_name || bytes_eq f.name g.name

abbrev pub physical_name_of : FileRecord → List ℕ
physical_name_of f = f.physical_name

abbrev pub same_segment : NamedSegment → NamedSegment → Bool
same_segment s r = bytes_eq s.name r.name

abbrev pub segment_name_of : NamedSegment → List ℕ
segment_name_of s = s.name

-- ---- the files of segments

abbrev pub has_physical_name : List ℕ → FileRecord → Bool
has_physical_name name f = bytes_eq f.physical_name name

-- the number of the file with this physical name
abbrev pub file_number : List FileRecord → List ℕ → Option ℕ
file_number files name = position_from (has_physical_name name) 0 files

abbrev pub file_of : List FileRecord → List ℕ → Result ℕ ManifestError
file_of files name = or_refuse (NoFile name) (file_number files name)

abbrev pub optional_file : List FileRecord → Option (List ℕ) → Result (Option ℕ) ManifestError
optional_file files None = Ok None
optional_file files (Some name) = file_of files name >>= (λ n. Ok (Some n))

unfoldable pub placed : List FileRecord → NamedSegment → Result Segment ManifestError
placed files s = do
  postings ← file_of files s.postings
  stored ← optional_file files s.stored
  live ← optional_file files s.live
  Ok (record { name = s.name; docs = s.docs; postings = postings; stored = stored; live = live })

-- ---- the whole

-- what a manifest tells; its version is 1
pub record Facts : Type 0 where
  pub files : List FileRecord
  pub segments : List Segment

unfoldable pub checked : Shaped → Result Facts ManifestError
checked m = do
  few_files ← at_most 4096 field.Files (length m.files)
  parts ← all_file_limits 0 m.files
  few_segments ← at_most 1024 field.Segments (length m.segments)
  small_segments ← all_segment_limits m.segments
  file_names ← no_doubles same_file physical_name_of [] m.files
  segment_names ← no_doubles same_segment segment_name_of [] m.segments
  segments ← each (placed m.files) m.segments
  Ok (record { files = m.files; segments = segments })

abbrev pub manifest : List ℕ → Result Facts ManifestError
manifest text = do
  size ← at_most 16777216 field.Bytes (length text)
  value ← or_refuse NotJson (json_of text)
  form ← shaped value
  checked form

-- ---- looking up

abbrev pub has_segment_name : List ℕ → Segment → Bool
has_segment_name name s = bytes_eq s.name name

-- the number of the segment with this name
abbrev pub segment_number : List Segment → List ℕ → Option ℕ
segment_number segments name = position_from (has_segment_name name) 0 segments
