-- What reads through a door make of the door and the source.
use Rattle.std.specs.Prelude.{◌≡◌, ◌≤◌, ◌+◌, ℕ, Bool, true, false, List, length, Result, Ok, Err}
use Rattle.byte_text.specs.Counts.{Rose}
use Rattle.directory_input.specs.declared.files.BytesError.{BytesError}
use Rattle.directory_input.specs.declared.files.BytesError.TheVariants as bytes
use Rattle.blob_parts.specs.Takes.{Took}
use Rattle.cache_outside.specs.Sources.{SourceView}
use Rattle.cache_door.specs.Doors.{DoorView, Grown}
use Rattle.cache_reader.specs.declared.report.Report.{Report}
use Rattle.cache_reader.specs.Bounds.{Bounded, Worked}
use Rattle.cache_reader.specs.Parts.{ReadSetting}

-- what is seen of a source and of a door at one moment
pub record Moment : Type 0 where
  pub source : SourceView
  pub door : DoorView

abbrev pub moment : SourceView → DoorView → Moment
moment source door = record { source = source; door = door }

-- what reads do that count these bytes
pub record Goes (c : ReadSetting) (counts : Report) (x y : Moment) : Type 0 where
  pub identity : y.source.identity ≡ x.source.identity
  pub faults : x.source.faults ≤ y.source.faults
  pub frame_faults : x.door.frame_faults ≤ y.door.frame_faults
  pub seen : Grown x.door.seen_gone y.door.seen_gone
  pub unmounted : y.door.unmounted ≡ x.door.unmounted
  pub work : Worked counts x.door.work y.door.work

-- The places of the bytes that reads took which count these bytes, where the archive tells. Where the source's count did not rise and no
-- memory was wanted (`out_of_memory`), these are as many as the bound says. Where the frames' count did not rise either, they are as many as
-- the bytes that were fetched and those that were read directly.
pub record Takes (c : ReadSetting) (counts : Report) (out_of_memory : Bool) (x y : Moment) : Type 0 where
  pub places : List (ℕ × ℕ)
  pub took : Took x.source.reads y.source.reads places
  pub bound : out_of_memory ≡ false → (Rose x.source.faults y.source.faults → ⊥) → Bounded c.config.range x.door.work y.door.work (length places)
  pub counted : out_of_memory ≡ false → (Rose x.source.faults y.source.faults → ⊥) → (Rose x.door.frame_faults y.door.frame_faults → ⊥)
      → length places ≡ counts.fetched + counts.direct

-- an answer that is want of memory
abbrev pub is_memory : {T : Type 0} → Result T BytesError → Bool
is_memory (Ok x) = false
is_memory (Err bytes.NoMemory) = true
is_memory (Err bytes.Fault) = false
is_memory (Err (bytes.Gone m)) = false
