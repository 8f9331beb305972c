use Rattle.std.proofs.Common.{◌≡◌, ◌<◌, ◌≤◌, ◌-◌, ◌+◌, length, take, drop, false}
use Rattle.std.specs.Prelude.{IsTrue}
use Rattle.std.specs.Option.{ForSome}
use Rattle.blob_parts.specs.Content.{content, slice_of}
use Rattle.cache_door.specs.Doors.{nothing}
use Rattle.cache_reader.specs.Parts.{read_setting}
use Rattle.cache_reader.specs.Going.{moment}
use Rattle.cache_reader.specs.Filling.{PartGoes}
use Rattle.cache_reader.specs.Alone.{LastFits}
use Rattle.cache_reader.proofs.Runs.{ReadTo}
use Rattle.cache_reader.proofs.parts.read_parts.Given as goal

abbrev pub invariant-loop-done : goal.invariant-loop-done
invariant-loop-done g l = record {
  low : l.done ≤ length l.out;
  counted : l.report.hit + l.report.direct ≡ l.done;
  untouched : drop l.done l.out ≡ drop l.done l.fn.out;
  empty : length l.fn.out ≡ 0 → (l.door ≡ l.fn.door) × (l.source ≡ l.fn.source);
  stays : g.D.CacheDoor.stays l.fn.door l.door;
  hold : (g.D.CacheDoor.view l.door).hold ≡ nothing;
  reach : ForSome l.last (λ x. x.region < l.setting.config.regions);
  bytes : IsTrue g.A.Archive.tells → IsTrue (g.D.CacheDoor.view l.fn.door).frames_tell → take l.done l.out ≡ slice_of (content g.A.Archive.blobs l.table.number l.file) l.at l.done;
  fits : LastFits l.setting.mount l.setting.time l.last (g.D.CacheDoor.view l.door).state;
  entries : ReadTo (read_setting g.A.Archive.tells g.A.Archive.blobs l.table l.setting) (g.D.CacheDoor.view l.fn.door).actor l.file l.setting.config.range l.at (l.at + l.done) (l.at + length l.fn.out) l.fn.report l.report
      (moment (g.S.BlobSource.view l.fn.source) (g.D.CacheDoor.view l.fn.door))
      (moment (g.S.BlobSource.view l.source) (g.D.CacheDoor.view l.door));
  part : PartGoes (read_setting g.A.Archive.tells g.A.Archive.blobs l.table l.setting) l.done false l.fn.report l.report
      (moment (g.S.BlobSource.view l.fn.source) (g.D.CacheDoor.view l.fn.door))
      (moment (g.S.BlobSource.view l.source) (g.D.CacheDoor.view l.door));
}

abbrev pub decreases-loop-done : goal.decreases-loop-done
decreases-loop-done g l = length l.initial.out - l.done
