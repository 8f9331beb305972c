use Rattle.std.proofs.Common.{◌≡◌, ◌≤◌, ◌-◌, Some}
use Rattle.cache_reader.specs.Parts.{read_setting}
use Rattle.cache_reader.specs.Going.{moment}
use Rattle.cache_reader.specs.Filling.{Filling}
use Rattle.std.specs.Prelude.{IsTrue}
use Rattle.cache_door.specs.Machine.{State}
use Rattle.cache_reader.specs.Stored.{StoredTo}
use Rattle.cache_reader.specs.Alone.{SamePolicy}
use Rattle.cache_reader.proofs.filling.fill.Given as goal

abbrev pub invariant-loop-at : goal.invariant-loop-at
invariant-loop-at g l = record {
  low : l.gap.start ≤ l.at;
  high : l.at ≤ l.gap.end;
  stays : g.D.CacheDoor.stays l.fn.door l.door;
  hold : (g.D.CacheDoor.view l.door).hold ≡ record (g.D.CacheDoor.view l.fn.door).hold { upto = l.at };
  kept : SamePolicy (g.D.CacheDoor.view l.fn.door).state (g.D.CacheDoor.view l.door).state;
  stored : IsTrue g.A.Archive.tells → (s : State) → (g.D.CacheDoor.view l.fn.door).state ≡ Some s
      → StoredTo (read_setting g.A.Archive.tells g.A.Archive.blobs l.table l.setting) (g.D.CacheDoor.view l.fn.door).actor l.file l.base l.gap.start l.at l.gap.end s (g.D.CacheDoor.view l.door).state;
  filled : Filling (read_setting g.A.Archive.tells g.A.Archive.blobs l.table l.setting) l.file l.base l.gap.start l.at l.fn.report l.report
      (moment (g.S.BlobSource.view l.fn.source) (g.D.CacheDoor.view l.fn.door))
      (moment (g.S.BlobSource.view l.source) (g.D.CacheDoor.view l.door));
}

abbrev pub decreases-loop-at : goal.decreases-loop-at
decreases-loop-at g l = l.gap.end - l.at
