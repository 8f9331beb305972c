use Rattle.std.proofs.Common.{◌≡◌, ◌≤◌, length, take}
use Rattle.std.specs.Prelude.{◌&&◌, vec_len, vec_capacity}
use Rattle.cache_door.specs.Doors.{nothing}
use Rattle.cache_reader.specs.Going.{moment}
use Rattle.script_run.specs.Lines.{cached}
use Rattle.script_run.specs.Shelves.{ShelvesFit}
use Rattle.shared_run.specs.Shares.{share}
use Rattle.shared_run.specs.Workers.{LinesDid}
use Rattle.shared_run.proofs.lines.run_share.Given as goal

abbrev pub invariant-loop-k : goal.invariant-loop-k
invariant-loop-k g l = record {
  did : LinesDid (cached g.A.Archive.tells g.A.Archive.blobs l.config) l.roster (share l.workers l.worker 0 (take l.k l.block)) l.replies.items
      (moment (g.S.BlobSource.view l.fn.source) (g.D.CacheDoor.view l.fn.door)) (moment (g.S.BlobSource.view l.source) (g.D.CacheDoor.view l.door));
  stays : g.D.CacheDoor.stays l.fn.door l.door;
  hold : (g.D.CacheDoor.view l.door).hold ≡ nothing;
  shelves : ShelvesFit (g.A.Archive.tells && (g.D.CacheDoor.view l.fn.door).frames_tell) g.A.Archive.blobs l.roster l.shelves;
  len : vec_len l.replies ≡ length (share l.workers l.worker 0 (take l.k l.block));
  room : length (share l.workers l.worker 0 l.block) ≤ vec_capacity l.replies;
}
