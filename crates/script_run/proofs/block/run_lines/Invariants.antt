use Rattle.std.proofs.Common.{◌≡◌, ◌≤◌, length, take}
use Rattle.std.specs.Prelude.{◌&&◌, vec_len, vec_capacity}
use Rattle.cache_door.specs.Cores.{all_tell}
use Rattle.script_run.specs.Blocks.{alone, LinesRan, SumsLater, point, LinesWent}
use Rattle.script_run.specs.Lines.{cached}
use Rattle.script_run.specs.Shelves.{ShelvesFit}
use Rattle.script_run.proofs.block.run_lines.Given as goal

abbrev pub invariant-loop-line : goal.invariant-loop-line
invariant-loop-line g l = record {
  ran : LinesRan (alone (g.A.Archive.tells && all_tell l.fn.core.cells) g.A.Archive.blobs l.config.regions) l.roster l.block (take l.line-index l.block) l.replies.items
      (g.S.BlobSource.view l.fn.source) (g.S.BlobSource.view l.source) l.fn.core l.core;
  went : LinesWent (cached g.A.Archive.tells g.A.Archive.blobs l.config) l.now l.roster (take l.line-index l.block) l.replies.items
      (point (g.S.BlobSource.view l.fn.source) l.fn.core l.fn.sums) (point (g.S.BlobSource.view l.source) l.core l.sums);
  shelves : ShelvesFit (g.A.Archive.tells && all_tell l.fn.core.cells) g.A.Archive.blobs l.roster l.shelves;
  sums : SumsLater l.fn.sums l.sums;
  len : vec_len l.replies ≡ l.line-index;
  room : length l.block ≤ vec_capacity l.replies;
}
