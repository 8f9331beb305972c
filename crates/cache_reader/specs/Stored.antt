-- A gap that is stored in pieces, and what is left to store of it.
use Rattle.std.specs.Prelude.{◌≡◌, ◌<◌, ◌≤◌, ◌+◌, ◌-◌, ℕ, Option, Some, None, length}
use Rattle.region_ranges.specs.declared.ranges.ByteRange.{ByteRange}
use Rattle.blob_parts.specs.Content.{slice_of}
use Rattle.cache_door.specs.Machine.{State, store, hold_at}
use Rattle.cache_reader.specs.Parts.{ReadSetting, bytes_of}

-- the state behind the store of the file's bytes from place `from` of the region up to place `end`, as one piece. The region's first byte
-- is byte `base` of the file
abbrev pub rest_stored : ReadSetting → ℕ → ℕ → ℕ → ℕ → ℕ → State → State
rest_stored c a file base from end s = store a (hold_at s a) (slice_of (bytes_of c file) (base + from) (end - from)) s

-- the state behind the store of a whole gap, where there is one
abbrev pub gap_stored : ReadSetting → ℕ → ℕ → ℕ → Option ByteRange → State → State
gap_stored c a file base None s = s
gap_stored c a file base (Some g) s = rest_stored c a file base g.start g.end s

-- A gap from place `from` of the region up to place `end` was stored up to place `at`, in a state that was `s` and is told still: to store
-- the rest leads where the store of it all from `s` on does, and where nothing is left the state is that one.
pub record StoredTo (c : ReadSetting) (a file base from at end : ℕ) (s : State) (now : Option State) : Type 0 where
  pub state : State
  pub is : now ≡ Some state
  pub actors : length state.holds ≡ length s.holds
  pub more : at < end → rest_stored c a file base at end state ≡ rest_stored c a file base from end s
  pub all : end ≤ at → state ≡ rest_stored c a file base from end s
