use Rattle.std.proofs.Common.{take}
use Rattle.std.specs.Prelude.{◌&&◌}
use Rattle.cache_door.specs.Cores.{all_tell}
use Rattle.script_run.specs.Blocks.{alone, WrittenSoFar}
use Rattle.script_run.specs.Lines.{cached}
use Rattle.script_run.specs.Shelves.{ShelvesFit}
use Rattle.script_run.proofs.alone.run_alone.Given as goal

abbrev pub invariant-loop-i : goal.invariant-loop-i
invariant-loop-i g l = record {
  written : WrittenSoFar (cached g.A.Archive.tells g.A.Archive.blobs l.config) (alone (g.A.Archive.tells && all_tell l.fn.core.cells) g.A.Archive.blobs l.config.regions) (take l.i l.script) l.roster l.sums l.marked l.lacking
      (g.S.BlobSource.view l.fn.source) (g.S.BlobSource.view l.source) (g.C.Clock.view l.fn.clock).times (g.C.Clock.view l.clock).times l.fn.core l.core (g.K.Sink.view l.fn.sink) (g.K.Sink.view l.sink);
  shelves : ShelvesFit (g.A.Archive.tells && all_tell l.fn.core.cells) g.A.Archive.blobs l.roster l.shelves;
}
