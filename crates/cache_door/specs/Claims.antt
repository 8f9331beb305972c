-- What a claim makes of a cell, and its gap.
use Rattle.std.specs.Prelude.{◌<◌, ◌≤◌, ◌+◌, ◌*◌, ◌/◌, ℕ, Option, Some, None}
use Rattle.region_ranges.specs.declared.ranges.ByteRange.{ByteRange}
use Rattle.sparse_tracker.specs.declared.gaps.OpenGap.{OpenGap}
use Rattle.sparse_tracker.specs.declared.status.Gap.{Gap}
use Rattle.cache_door.specs.Machine.{no_gap}

-- the gap that a claim opened, as the hold keeps it
abbrev pub gap_opened : Option Gap → OpenGap
gap_opened None = no_gap
gap_opened (Some g) = record { id = g.id; upto = g.range.start; end = g.range.end }

-- a gap is not empty, and lies in the aligned range of what is wanted and in the region's part of the file, of `len` bytes
abbrev pub IsGap : ℕ → ByteRange → ℕ → ByteRange → Type 0
IsGap range sub len g = (g.start < g.end) × (sub.start / range * range ≤ g.start) × (g.end ≤ sub.start / range * range + range) × (g.end ≤ len)
