-- What looking for the parts of files answers.
use Rattle.std.specs.Prelude.{ℕ, ◌≡◌, ◌<◌, List, Option, Some, None, Result, Ok, Err, Bool, IsTrue, slice_get, length}
use Rattle.cache_outside.specs.Listing.{Listing, place_of, blob_size}
use Rattle.cache_outside.specs.declared.fault.OutError.{OutError}
use Rattle.cache_outside.specs.declared.fault.OutError.TheVariants.{Failed}
use Rattle.cache_outside.specs.declared.fault.OutError.TheVariants as out
use Rattle.mount_manifest.specs.declared.record.FileRecord.{FileRecord}
use Rattle.mount_manifest.specs.Parts.{part_name, part_length, parts_of}
use Rattle.blob_parts.specs.Content.{PartRefusal, no_part, other_size, missing_part}
use Rattle.blob_parts.specs.Tables.{FileParts, AreNamed}
use Rattle.blob_parts.specs.declared.resolving.ResolveError.{ResolveError}
use Rattle.blob_parts.specs.declared.resolving.ResolveError.TheVariants.{Missing, PartSize, Fault, NoMemory}

-- a refusal of the parts is this one; a fault of the source and want of memory are not of the parts
abbrev pub Refuses : ResolveError → Option PartRefusal → Type 0
Refuses (Missing name) refusal = refusal ≡ Some (no_part name)
Refuses (PartSize name told wanted) refusal = refusal ≡ Some (other_size name told wanted)
Refuses Fault refusal = Unit {0}
Refuses NoMemory refusal = Unit {0}

-- Ok exactly where nothing is refused, faults and want of memory aside, and else the refusal
abbrev pub Resolves : {T : Type 0} → Result T ResolveError → Option PartRefusal → Type 0
Resolves (Ok x) refusal = refusal ≡ None
Resolves (Err e) refusal = Refuses e refusal

-- a part's blob, or that it is missing
abbrev pub FindsPart : Listing → FileRecord → ℕ → Result ℕ ResolveError → Type 0
FindsPart blobs f k (Ok blob) = place_of (part_name f k) blobs ≡ Some blob
FindsPart blobs f k (Err e) = Refuses e (missing_part blobs f k)

-- a file as a table has it, with the blobs of its parts where the archive tells
pub record IsEntry (tells : Bool) (blobs : Listing) (f : FileRecord) (file : FileParts) : Type 0 where
  pub size : file.length ≡ f.length
  pub part_size : file.part_size ≡ f.part_size
  pub count : length file.blobs ≡ parts_of f
  pub named : IsTrue tells → AreNamed blobs f file.blobs

-- the first files of a manifest, each as a table has it
abbrev pub AreEntries : Bool → Listing → List FileRecord → List FileParts → Type 0
AreEntries tells blobs files entries = (i : ℕ) (file : FileParts) → slice_get entries i ≡ Some file → (f : FileRecord) → slice_get files i ≡ Some f → IsEntry tells blobs f file

-- each part of a file has its size
abbrev pub AreSized : Listing → FileRecord → List ℕ → Type 0
AreSized blobs f found = (k blob : ℕ) → slice_get found k ≡ Some blob → blob_size blobs blob ≡ part_length f.length f.part_size k

-- each part of each of the first `count` files has its size
abbrev pub AllSized : Listing → ℕ → List FileRecord → List FileParts → Type 0
AllSized blobs count files entries =
    (i : ℕ) → i < count → (f : FileRecord) → slice_get files i ≡ Some f → (file : FileParts) → slice_get entries i ≡ Some file → AreSized blobs f file.blobs

-- a failure of the source is a fault
abbrev pub same_cause : OutError → ResolveError
same_cause Failed = Fault
same_cause out.NoMemory = NoMemory
