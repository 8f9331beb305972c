use Rattle.std.proofs.Common.{◌≡◌, map}
use Rattle.std.specs.List.{All}
use Rattle.blob_parts.specs.Content.{content}
use Rattle.region_cell.specs.Cells.{IsGood}
use Rattle.cache_door.proofs.Made.{cell_over}
use Rattle.cache_door.proofs.cells.cells_over.Given as goal

abbrev pub invariant-loop-frame : goal.invariant-loop-frame
invariant-loop-frame g l = record {
  cells : l.cells.items ≡ map (cell_over g.F.Frame.view l.config.range) l.yielded;
  good : All (λ x. IsGood g.A.Archive.tells (content g.A.Archive.blobs) x) l.cells.items;
}
