-- From one state of what gives the bytes to a later one.
use Rattle.std.proofs.Common.{List, ◌++◌, Option, Some, None, refl, ◌∙◌, arith}
use Rattle.directory_input.specs.Reads.{Read}
use Rattle.directory_input.specs.Files.{FilesView, FilesLater, GoesOn}
use Rattle.directory_input.specs.Windows.{Window, FitsFile}
use Rattle.directory_input.specs.Causes.{HasBytesCause, IsCaused}
use Rattle.directory_input.specs.declared.files.BytesError.{BytesError}
use Rattle.directory_input.specs.declared.files.BytesError.TheVariants.{Fault, Gone, NoMemory}

pub files_same : (x : FilesView) → FilesLater x x
files_same x = record {
  count = refl;
  lengths = refl;
  tells = refl;
  bytes = refl;
  mount = refl;
  faults = omega arith;
  gone = λ raised. raised;
  memory = λ raised. raised;
}

pub files_join : {x y z : FilesView} → FilesLater x y → FilesLater y z → FilesLater x z
files_join h k = record {
  count = k.count ∙ h.count;
  lengths = k.lengths ∙ h.lengths;
  tells = k.tells ∙ h.tells;
  bytes = k.bytes ∙ h.bytes;
  mount = k.mount ∙ h.mount;
  faults = omega (arith, h.faults, k.faults);
  gone = λ raised. k.gone (h.gone raised);
  memory = λ raised. k.memory (h.memory raised);
}

pub file_fits_later : {x y : FilesView} {w : Window} → FilesLater x y → FitsFile x w → FitsFile y w
file_fits_later {x} {y} {w} later h = record {
  file = rw later.count h.file;
  inside = rw later.lengths h.inside;
  whole = rw (later.tells, later.bytes, later.lengths) h.whole;
}

pub no_cause : (x : FilesView) → HasBytesCause x x None
no_cause x = record { files = files_same x; cause = tt; memory = λ raised. raised }

caused_from : (x y z : FilesView) (r : Option BytesError) → FilesLater x y → IsCaused y z r → IsCaused x z r
caused_from x y z None later h = tt
caused_from x y z (Some Fault) later h = omega (arith, later.faults, h)
caused_from x y z (Some (Gone m)) later h = (h.0 ∙ later.mount, h.1)
caused_from x y z (Some NoMemory) later h = tt

-- a call that was not refused, and one behind it
pub cause_join : {x y z : FilesView} {r : Option BytesError} → HasBytesCause x y None → HasBytesCause y z r → HasBytesCause x z r
cause_join {x} {y} {z} {r} h k = record {
  files = files_join h.files k.files;
  cause = caused_from x y z r h.files k.cause;
  memory = λ raised. k.memory (h.memory raised);
}

pub going_by : {S : Type 0} (goes_by : List Read → S → S → Type 0) (rs : List Read) (x y : S) → goes_by rs x y → GoesOn goes_by x y
going_by goes_by rs x y h = record { reads = rs; by = h }

pub going_join : {S : Type 0} {goes_by : List Read → S → S → Type 0} {x y z : S}
    → ((rs ss : List Read) (x y z : S) → goes_by rs x y → goes_by ss y z → goes_by (rs ++ ss) x z)
    → GoesOn goes_by x y → GoesOn goes_by y z → GoesOn goes_by x z
going_join {x = x} {y} {z} more h k = record { reads = h.reads ++ k.reads; by = more h.reads k.reads x y z h.by k.by }
