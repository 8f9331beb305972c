-- Why bytes were not given, and what a refusal says of the files' counts and marks.
use Rattle.std.specs.Prelude.{◌≡◌, Bool, false, IsTrue, Option, Some, None, Result, Ok, Err}
use Rattle.byte_text.specs.Counts.{Rose}
use Rattle.directory_input.specs.Files.{FilesView, FilesLater}
use Rattle.directory_input.specs.declared.files.BytesError.{BytesError}
use Rattle.directory_input.specs.declared.files.BytesError.TheVariants.{Fault, Gone, NoMemory}

-- `Fault` comes only where the count of faults rose, `Gone` only of this mount and where it was seen gone; want of
-- memory is free
abbrev pub IsCaused : (before now : FilesView) → Option BytesError → Type 0
IsCaused before now None = Unit {0}
IsCaused before now (Some Fault) = Rose before.faults now.faults
IsCaused before now (Some (Gone m)) = (m ≡ before.mount) × IsTrue now.gone
IsCaused before now (Some NoMemory) = Unit {0}

-- a mark on memory that was not raised before the call is raised after it only where the call answers want of memory
abbrev pub MemoryMark : Bool → Option BytesError → Type 0
MemoryMark raised None = raised ≡ false
MemoryMark raised (Some Fault) = raised ≡ false
MemoryMark raised (Some (Gone m)) = raised ≡ false
MemoryMark raised (Some NoMemory) = Unit {0}

-- what a call leaves of the files, and what its refusal for the bytes (or none) says of their counts and marks
pub record HasBytesCause (before now : FilesView) (refusal : Option BytesError) : Type 0 where
  pub files : FilesLater before now
  pub cause : IsCaused before now refusal
  pub memory : before.out_of_memory ≡ false → MemoryMark now.out_of_memory refusal

-- the same of a read that takes no memory of its own, so that want of memory leaves the mark raised
pub record HasReadCause (before now : FilesView) (refusal : Option BytesError) : Type 0 where
  pub bytes : HasBytesCause before now refusal
  pub raised : refusal ≡ Some NoMemory → IsTrue now.out_of_memory

-- the refusal of the bytes that an answer is
abbrev pub refusal : {T : Type 0} → Result T BytesError → Option BytesError
refusal (Ok x) = None
refusal (Err e) = Some e
