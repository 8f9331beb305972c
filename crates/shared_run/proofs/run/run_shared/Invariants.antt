use Rattle.std.proofs.Common.{◌≡◌, take, drop, map, length}
use Rattle.std.specs.Prelude.{◌&&◌}
use Rattle.script_run.specs.Lines.{cached}
use Rattle.shared_run.specs.Blocks.{several}
use Rattle.shared_run.specs.Runs.{WrittenSoFar}
use Rattle.shared_run.specs.Workers.{IsIdle}
use Rattle.shared_run.proofs.run.run_shared.Given as goal

abbrev pub invariant-loop-i : goal.invariant-loop-i
invariant-loop-i g l = record {
  written : WrittenSoFar (cached g.A.Archive.tells g.A.Archive.blobs l.config) (several (g.A.Archive.tells && l.cache.about.tells) g.A.Archive.blobs l.workers l.config.regions) (take l.i l.script) l.roster l.marked l.lacking
      (map g.S.BlobSource.view l.fn.sources.items) (map g.S.BlobSource.view l.sources.items) (g.C.Clock.view l.fn.clock).times (g.C.Clock.view l.clock).times l.fn.pass l.pass (g.K.Sink.view l.fn.sink) (g.K.Sink.view l.sink);
  others : drop l.workers l.sources.items ≡ drop l.workers l.fn.sources.items;
  count : length l.sources.items ≡ length l.fn.sources.items;
  idle : IsIdle l.cache l.pass;
  shares : l.pass.view.shares ≡ 64;
}
