-- What the calls keep of a cell, for callers whose own definitions speak of regions and their bytes.
use Rattle.std.specs.Prelude.{◌≡◌, ◌<◌, ◌≤◌, ◌+◌, ◌-◌, ◌*◌, ◌/◌, ℕ, List, length, Some}
use Rattle.region_ranges.specs.declared.ranges.ByteRange.{ByteRange}
use Rattle.region_ranges.specs.Keys.{manifest_of}
use Rattle.sparse_tracker.specs.declared.gaps.OpenGap.{OpenGap}
use Rattle.sparse_tracker.specs.ByteStates.{gap_of}
use Rattle.sparse_tracker.specs.Kept as tracker
use Rattle.cache_outside.specs.Frames.{put_at, SameOutside}
use Rattle.blob_parts.specs.Content.{slice_of}
use Rattle.region_cell.specs.Cells.{Region, len_of, IsRanged, IsFilled, assign, claim, progress, fail, leave, file_of, part_of}

-- the order of states, and the tickets
pub record RangedStays : Type 0 where
  pub assign : (range tag len : ℕ) (c : Region) → IsRanged range (assign tag len c)
  pub claim : (range : ℕ) (sub : ByteRange) (c : Region) → 0 < range → sub.start < sub.end → sub.end ≤ len_of c → sub.start / range ≡ (sub.end - 1) / range → IsRanged range c → IsRanged range (claim range sub c)
  pub progress : (range g to : ℕ) (c : Region) → IsRanged range c → IsRanged range (progress g to c)
  pub fail : (range g : ℕ) (c : Region) → IsRanged range c → IsRanged range (fail g c)
  pub leave : (range n : ℕ) (c : Region) → IsRanged range c → IsRanged range (leave n c)

-- that each present byte is the file's; where a piece was not put, whatever stands in its place
pub record FilledStays (files : ℕ → ℕ → List ℕ) (size : ℕ) : Type 0 where
  pub assign : (tag len : ℕ) (c : Region) (bytes : List ℕ) → IsFilled files size (assign tag len c) bytes
  pub claim : (range : ℕ) (sub : ByteRange) (c : Region) (bytes : List ℕ) → IsFilled files size c bytes → IsFilled files size (claim range sub c) bytes
  pub stored : (g : ℕ) (o : OpenGap) (c : Region) (bytes piece : List ℕ) → tracker.IsGood c.tracker → gap_of g c.tracker ≡ Some o → o.upto + length piece ≤ o.end → len_of c ≤ length bytes → len_of c ≤ size → piece ≡ slice_of (files (manifest_of c.tag) (file_of c.tag)) (part_of c.tag * size + o.upto) (length piece) → IsFilled files size c bytes → IsFilled files size (progress g (o.upto + length piece) c) (put_at o.upto piece bytes)
  pub unstored : (g n : ℕ) (o : OpenGap) (c : Region) (before now : List ℕ) → tracker.IsGood c.tracker → gap_of g c.tracker ≡ Some o → o.upto + n ≤ o.end → SameOutside o.upto n before now → IsFilled files size c before → IsFilled files size c now
  pub fail : (g : ℕ) (c : Region) (bytes : List ℕ) → IsFilled files size c bytes → IsFilled files size (fail g c) bytes
  pub leave : (n : ℕ) (c : Region) (bytes : List ℕ) → IsFilled files size c bytes → IsFilled files size (leave n c) bytes

-- the number of states
pub record LenStays : Type 0 where
  pub claim : (range : ℕ) (sub : ByteRange) (c : Region) → len_of (claim range sub c) ≡ len_of c
  pub progress : (g to : ℕ) (c : Region) → len_of (progress g to c) ≡ len_of c
  pub fail : (g : ℕ) (c : Region) → len_of (fail g c) ≡ len_of c
