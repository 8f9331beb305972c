-- What is true of every manifest that was read.
use Rattle.std.specs.Prelude.{◌≡◌, ℕ, ◌<◌, ◌≤◌, true, List, length, slice_get, sum_by, Some, IfSome, Ok}
use Rattle.mount_manifest.specs.Parts.{parts_of}
use Rattle.mount_manifest.specs.Manifest.{Facts, is_file_name, manifest}
use Rattle.mount_manifest.specs.declared.record.FileRecord.{FileRecord}
use Rattle.mount_manifest.specs.declared.record.Segment.{Segment}
use Rattle.mount_manifest.specs.declared.record.NamedSegment.{NamedSegment}

pub record IsFile (f : FileRecord) : Type 0 where
  pub named : is_file_name f.name ≡ true
  pub name : length f.name ≤ 200
  pub short : f.length ≤ 1099511623680
  pub cut : 1 ≤ f.part_size

-- `files` is the number of files
pub record IsSegment (files : ℕ) (s : Segment) : Type 0 where
  pub docs : s.docs ≤ 16777216
  pub postings : s.postings < files
  pub stored : IfSome s.stored (λ f. f < files)
  pub live : IfSome s.live (λ f. f < files)

-- what stands at different places has different names
abbrev pub DiffersBy : {A : Type 0} → (A → List ℕ) → List A → Type 0
DiffersBy {A} name xs = (i j : ℕ) (x y : A) → slice_get xs i ≡ Some x → slice_get xs j ≡ Some y → name x ≡ name y → i ≡ j

pub record IsSound (m : Facts) : Type 0 where
  pub few_files : length m.files ≤ 4096
  pub few_segments : length m.segments ≤ 1024
  pub few_parts : sum_by parts_of m.files ≤ 1048576
  pub file : (i : ℕ) (f : FileRecord) → slice_get m.files i ≡ Some f → IsFile f
  pub segment : (i : ℕ) (s : Segment) → slice_get m.segments i ≡ Some s → IsSegment (length m.files) s
  pub physical_names : DiffersBy (λ f. f.physical_name) m.files
  pub names : DiffersBy (λ f. f.name) m.files
  pub segment_names : DiffersBy (λ s. s.name) m.segments

-- each text that is a manifest
abbrev pub AreSound : Type 0
AreSound = (text : List ℕ) (m : Facts) → manifest text ≡ Ok m → IsSound m

-- ---- what the passes before have shown

-- each file has a name of data
abbrev pub AllNamed : List FileRecord → Type 0
AllNamed files = (i : ℕ) (f : FileRecord) → slice_get files i ≡ Some f → is_file_name f.name ≡ true

-- no segment has more documents than the limit
abbrev pub FewDocs : List NamedSegment → Type 0
FewDocs segments = (i : ℕ) (s : NamedSegment) → slice_get segments i ≡ Some s → s.docs ≤ 16777216
