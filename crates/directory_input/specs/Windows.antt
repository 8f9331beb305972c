-- An input is a window on one file, and a position in it.
use Rattle.std.specs.Prelude.{ℕ, ◌≡◌, ◌<◌, ◌≤◌, ◌+◌, IsTrue, List, [], ◌∷◌, length, Option, Some, None, Result, Ok, Err}
use Rattle.directory_input.specs.Reads.{Read, slice_of, one_read}
use Rattle.directory_input.specs.Files.{FilesView}
use Rattle.directory_input.specs.declared.files.BytesError.{BytesError}
use Rattle.directory_input.specs.declared.input.InputError.{InputError}
use Rattle.directory_input.specs.declared.input.InputError.TheVariants.{PastEnd, Bytes}

-- from which place of which file on, how many bytes, and how far from its start it stands
pub record Window : Type 0 where
  pub file : ℕ
  pub start : ℕ
  pub size : ℕ
  pub position : ℕ

-- a part of a window, from a place of it on; it stands at its start
abbrev pub part_of : Window → ℕ → ℕ → Window
part_of w at size = record { file = w.file; start = w.start + at; size = size; position = 0 }

abbrev pub moved_to : ℕ → Window → Window
moved_to at w = record { file = w.file; start = w.start; size = w.size; position = at }

-- a window fits files that have what it looks on; where the bytes are told, its file has as many as its length
pub record FitsFile (files : FilesView) (w : Window) : Type 0 where
  pub file : w.file < files.count
  pub inside : w.start + w.size ≤ files.lengths w.file
  pub whole : IsTrue files.tells → length (files.bytes w.file) ≡ files.lengths w.file

-- the bytes that a window looks on
abbrev pub window_bytes : (ℕ → List ℕ) → Window → List ℕ
window_bytes bytes w = slice_of w.start w.size (bytes w.file)

-- each of these reads lies in the window
abbrev pub IsInside : Window → Read → Type 0
IsInside w r = (r.file ≡ w.file) × (w.start ≤ r.at) × (r.at + r.size ≤ w.start + w.size)

abbrev pub AreInside : Window → List Read → Type 0
AreInside w [] = Unit {0}
AreInside w (r ∷ rs) = IsInside w r × AreInside w rs

-- a call that reads so many bytes at the position: past the end it reads nothing, else it is one read of the file
abbrev pub reads_of : {T : Type 0} → Window → ℕ → Result T InputError → List Read
reads_of w size (Ok x) = one_read w.file (w.start + w.position) size
reads_of w size (Err (Bytes e)) = one_read w.file (w.start + w.position) size
reads_of w size (Err (PastEnd at len)) = []

-- the refusal of the bytes that an answer is
abbrev pub input_refusal : {T : Type 0} → Result T InputError → Option BytesError
input_refusal (Ok x) = None
input_refusal (Err (Bytes e)) = Some e
input_refusal (Err (PastEnd at len)) = None

-- a refusal that passes the end comes exactly where the range asked does: from this place on, so many bytes
abbrev pub IsPastEnd : ℕ → ℕ → ℕ → InputError → Type 0
IsPastEnd at size end (PastEnd place len) = (end < at + size) × (place ≡ at) × (len ≡ end)
IsPastEnd at size end (Bytes e) = at + size ≤ end

-- the later state comes from the earlier one by reads that all lie in the window
abbrev pub ReadsInside : {S : Type 0} → (List Read → S → S → Type 0) → Window → S → S → Type 0
ReadsInside goes_by w before now = (reads : List Read) × AreInside w reads × goes_by reads before now
