-- Where one actor works alone, an entry's gap is stored and then all that it wants is copied.
use Rattle.std.proofs.Common.{◌≡◌, ◌<◌, ◌≤◌, ◌+◌, ◌-◌, ◌∙◌, ℕ, Bool, List, sym, refl, length, Option, Some, None}
use Rattle.region_ranges.specs.declared.ranges.ByteRange.{ByteRange}
use Rattle.region_cell.specs.declared.taken.Taken.TheVariants as taken
use Rattle.blob_parts.specs.Content.{slice_of}
use Rattle.cache_door.specs.declared.answers.Want.{Want}
use Rattle.cache_door.specs.declared.answers.Entered.TheVariants.{Held}
use Rattle.cache_door.specs.Machine.{State, hold_at, enter, take_bytes}
use Rattle.cache_door.specs.Good.{Good}
use Rattle.cache_door.specs.Doors.{hold_view}
use Rattle.cache_reader.specs.Parts.{ReadSetting, bytes_of}
use Rattle.cache_reader.specs.Stored.{gap_stored}
use Rattle.cache_reader.specs.Holds.{Unfailed}
use Rattle.cache_reader.proofs.Holds.{store_unfailed, store_actors, enter_actors, entered_unfailed, alone_copied}

pub gap_unfailed : (c : ReadSetting) (a file base : ℕ) (gap : Option ByteRange) (s : State) → Unfailed a s → Unfailed a (gap_stored c a file base gap s)
gap_unfailed c a file base None s u = u
gap_unfailed c a file base (Some g) s u = store_unfailed s a (slice_of (bytes_of c file) (base + g.start) (g.end - g.start)) u

pub gap_actors : (c : ReadSetting) (a file base : ℕ) (gap : Option ByteRange) (s : State) → length (gap_stored c a file base gap s).holds ≡ length s.holds
gap_actors c a file base None s = refl
gap_actors c a file base (Some g) s = store_actors s a (hold_at s a) (slice_of (bytes_of c file) (base + g.start) (g.end - g.start))

-- behind the store of its gap a hold that did not fail is copied
pub gap_copied : {tells : Bool} {files : ℕ → ℕ → List ℕ} (c : ReadSetting) (a file base : ℕ) (gap : Option ByteRange) (s : State) → Unfailed a s → length s.holds ≡ 1 → Good tells files (gap_stored c a file base gap s)
    → (hold_view (hold_at (gap_stored c a file base gap s) a)).gap_end ≤ (hold_view (hold_at (gap_stored c a file base gap s) a)).upto
    → take_bytes (hold_at (gap_stored c a file base gap s) a) (gap_stored c a file base gap s) ≡ taken.Copied
gap_copied c a file base gap s u one good closed = alone_copied (gap_stored c a file base gap s) a good (gap_actors c a file base gap s ∙ one) (gap_unfailed c a file base gap s u) closed

-- the entry itself
pub entered_alone : {tells : Bool} {files : ℕ → ℕ → List ℕ} (s : State) → Good tells files s → (a : ℕ) → a < length s.holds → (want : Want) (now r : ℕ) (gap : Option ByteRange) (mount : ℕ) → length s.holds ≡ 1 → Held r gap ≡ (enter a mount want now s).0
    → (length (enter a mount want now s).1.holds ≡ 1) × Unfailed a (enter a mount want now s).1
entered_alone s good a actor want now r gap mount one e = (enter_actors s a mount now want ∙ one, entered_unfailed s good a actor want now r gap mount (sym e))
