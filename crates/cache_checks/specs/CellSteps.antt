-- The states of a cell step by step, for regions of 8,192 bytes of the file of 10,000 counted bytes.
use Rattle.std.specs.Prelude.{◌≡◌, false}
use Rattle.region_ranges.specs.declared.ranges.ByteRange.{ByteRange}
use Rattle.sparse_tracker.specs.declared.tickets.Ticket.{Ticket}
use Rattle.sparse_tracker.specs.ByteStates.{new_tracker}
use Rattle.region_cell.specs.Cells.{Region, CellMetadata, claim, progress, fail}

-- a cell of a region of 8,192 bytes in ranges of 4,096
pub record IsAt (state : Region) (n : CellMetadata) : Type 0 where
  pub region : n.region ≡ state
  pub size : n.frame.size ≡ 8192
  pub range : n.range ≡ 4096

abbrev pub wanted : ByteRange
wanted = record { start = 100; end = 200 }

abbrev pub few : ByteRange
few = record { start = 120; end = 130 }

abbrev pub fresh_cell : Region
fresh_cell = record { tag = 2199023255552; tracker = new_tracker 8192 }

abbrev pub claimed_cell : Region
claimed_cell = claim 4096 wanted fresh_cell

-- a piece of 150 bytes is stored
abbrev pub begun_cell : Region
begun_cell = progress 0 150 claimed_cell

abbrev pub joined_cell : Region
joined_cell = claim 4096 few begun_cell

-- and the rest failed
abbrev pub lost_cell : Region
lost_cell = fail 0 joined_cell

-- ---- the same by names that do not unfold

unfoldable pub fresh : Region
fresh = fresh_cell

unfoldable pub claimed : Region
claimed = claimed_cell

unfoldable pub begun : Region
begun = begun_cell

unfoldable pub joined : Region
joined = joined_cell

unfoldable pub lost : Region
lost = lost_cell

abbrev pub first_ticket : Ticket
first_ticket = record { number = 0; start = 100; end = 200; failed = false }
