use Rattle.std.proofs.Common.{arith, rules, ◌≡◌, ◌≤◌, ◌+◌, ◌-◌, ◌∙◌, length, false, Some, ap, sym, subst, refl}
use borrow.Rule.Slice.PartMut.{mid_of}
use Rattle.std.proofs.lemmas.Slice.{drop-put_mid}
use Rattle.blob_parts.specs.Content.{content, slice_of}
use Rattle.cache_reader.proofs.Answered.{caused_later}
use Rattle.cache_reader.proofs.Together.{grown, parts_none, parts_more, counted_few, stopped, deeper, untouched_behind, filled_before}
use Rattle.cache_reader.specs.Parts.{read_setting}
use Rattle.cache_reader.specs.Going.{moment}
use Rattle.cache_reader.specs.Reader.{files_seen}
use Rattle.cache_reader.proofs.Runs.{ReadTo, read_to_all, read_to_more, read_to_none}
use Rattle.cache_reader.proofs.Stores.{at_rest}
use Rattle.cache_reader.proofs.Entries.{entries_refused}
use Rattle.cache_reader.proofs.Entering.{short_part}
use Rattle.cache_reader.specs.Runs.{exactly_entries}
use Rattle.cache_reader.proofs.parts.read_parts.Goals as goal

pub loop-done-init : goal.loop-done-init
loop-done-init g c = record {
  low = omega arith;
  counted = rw c.requires.fresh refl;
  untouched = refl;
  empty = λ e. (refl, refl);
  stays = g.met.D.CacheDoor.stays_same _;
  hold = c.requires.free;
  reach = c.requires.reach;
  bytes = λ told frames. refl;
  fits = c.requires.fits;
  entries =
      let l = read_setting g.A.Archive.tells g.A.Archive.blobs c.args.table.now c.args.setting.now in
      let a = (g.D.CacheDoor.view c.args.door.now).actor in
      let end = c.args.at + length c.args.out.now in
      let x = (moment (g.S.BlobSource.view c.args.source.now) (g.D.CacheDoor.view c.args.door.now)) in
      let none : c.args.at ≡ c.args.at + 0 = omega arith in
      subst (λ n. ReadTo l a c.args.file c.args.setting.now.config.range c.args.at n end c.args.report.now c.args.report.now x x) none (read_to_none l a c.args.file c.args.setting.now.config.range c.args.at end c.args.report.now x);
  part = parts_none _ _ _;
}

pub loop-done-preserved : goal.loop-done-preserved
loop-done-preserved g c =
    let n = c.part_from-part.result.end - c.part_from-part.result.start in
    let fits : c.loop-done.done + n ≤ length c.loop-done.out = omega (arith, c.part_from-part.ensures.start, c.part_from-part.ensures.one.1) in
    let size : length (mid_of c.loop-done.done (c.loop-done.done + n - c.loop-done.done) c.loop-done.out) ≡ n = search rules in
    let new : length c.read_part.new.out ≡ n = omega (arith, size) in
    record {
      low = search rules;
      counted = counted_few c.loop-done.report c.read_part.new.report c.in-Ok.ensures.part.counts c.loop-done.done n (c.loop-done.done + n) c.in-Ok.ensures.part.report c.loop-done.invariant.counted c.in-Ok.ensures.part.all refl
          (omega (arith, fits, c.requires.inside, c.length-length.ensures.value, c.length-length.ensures.most));
      untouched = drop-put_mid c.loop-done.done _ c.loop-done.out c.read_part.new.out (c.loop-done.done + n) (omega arith) (omega (arith, fits)) (omega (arith, new)) ∙ deeper c.loop-done.out c.args.out.now c.loop-done.done n c.loop-done.invariant.untouched;
      empty = λ e. absurd (omega (arith, e, fits, c.part_from-part.ensures.one.0, c.loop-done.invariant.low));
      stays = g.met.D.CacheDoor.stays_on _ _ _ c.loop-done.invariant.stays c.read_part.ensures.stays;
      hold = c.read_part.ensures.hold;
      reach = c.read_part.ensures.reach;
      bytes = λ told frames.
          let bytes = content g.A.Archive.blobs c.args.table.now.number c.args.file in
          grown c.loop-done.out c.read_part.new.out bytes c.loop-done.done (c.loop-done.done + n) n c.args.at _ (omega arith) new refl (c.loop-done.invariant.bytes told frames)
          (c.in-Ok.ensures.bytes told ((g.met.D.CacheDoor.later _ _ c.loop-done.invariant.stays).frames_tell ∙ frames) ∙ ap (slice_of bytes c.part_from-part.result.start) size ∙ ap (λ k. slice_of bytes k n) c.part_from-part.ensures.start);
      fits = c.read_part.ensures.fits;
      entries =
          let l = read_setting g.A.Archive.tells g.A.Archive.blobs c.args.table.now c.args.setting.now in
          let a = (g.D.CacheDoor.view c.args.door.now).actor in
          let range = c.args.setting.now.config.range in
          let end = c.args.at + length c.args.out.now in
          let x = (moment (g.S.BlobSource.view c.args.source.now) (g.D.CacheDoor.view c.args.door.now)) in
          let y = (moment (g.S.BlobSource.view c.loop-done.source) (g.D.CacheDoor.view c.loop-done.door)) in
          let z = (moment (g.S.BlobSource.view c.read_part.new.source) (g.D.CacheDoor.view c.read_part.new.door)) in
          let act : (g.D.CacheDoor.view c.loop-done.door).actor ≡ a = (g.met.D.CacheDoor.later _ _ c.loop-done.invariant.stays).actor in
          let place : c.part_from-part.result.end ≡ c.args.at + (c.loop-done.done + n) = omega (arith, c.part_from-part.ensures.start, c.part_from-part.ensures.one.0) in
          subst (λ k. ReadTo l a c.args.file range c.args.at k end c.args.report.now c.read_part.new.report x z) place
          (read_to_more l a c.args.file range c.args.at (c.args.at + c.loop-done.done) end c.part_from-part.result c.loop-done.invariant.part.counts c.in-Ok.ensures.part.counts c.args.report.now c.loop-done.report c.read_part.new.report x y z
          c.requires.limits.range.0 (omega arith) c.part_from-part.ensures.start c.part_from-part.ensures.end c.loop-done.invariant.part.goes c.in-Ok.ensures.part.goes
          (rw act at c.in-Ok.ensures.entries) c.loop-done.invariant.entries);
      part = parts_more _ c.loop-done.done n (c.loop-done.done + n) _ _ _ _ _ _ _ c.loop-done.invariant.part c.in-Ok.ensures.part refl;
    }

pub returns-in-Err-clause-cause : goal.returns-in-Err-clause-cause
returns-in-Err-clause-cause g c =
    let l = read_setting g.A.Archive.tells g.A.Archive.blobs c.args.table.now c.args.setting.now in
    let x = moment (g.S.BlobSource.view c.args.source.now) (g.D.CacheDoor.view c.args.door.now) in
    let y = moment (g.S.BlobSource.view c.loop-done.source) (g.D.CacheDoor.view c.loop-done.door) in
    let z = moment (g.S.BlobSource.view c.read_part.new.source) (g.D.CacheDoor.view c.read_part.new.door) in
    caused_later (Some c.in-Err.e) (files_seen l x false) (files_seen l y false) (files_seen l z false) c.loop-done.invariant.part.goes.faults refl c.in-Err.ensures.cause

pub returns-in-Err-clause-part : goal.returns-in-Err-clause-part
returns-in-Err-clause-part g c =
    let same : c.read_part.new.report.hit + c.read_part.new.report.direct ≡ c.loop-done.done = stopped _ _ _ _ _ _ _ c.in-Err.ensures.part c.loop-done.invariant.counted (omega (arith, c.loop-done.invariant.low, c.requires.inside, c.length-length.ensures.value, c.length-length.ensures.most)) in
    parts_more _ c.loop-done.done 0 _ _ _ _ _ _ _ _ c.loop-done.invariant.part c.in-Err.ensures.part (omega (arith, same))

pub returns-in-Err-clause-reached : goal.returns-in-Err-clause-reached
returns-in-Err-clause-reached g c =
    let same : c.read_part.new.report.hit + c.read_part.new.report.direct ≡ c.loop-done.done = stopped _ _ _ _ _ _ _ c.in-Err.ensures.part c.loop-done.invariant.counted (omega (arith, c.loop-done.invariant.low, c.requires.inside, c.length-length.ensures.value, c.length-length.ensures.most)) in
    omega (arith, same, c.loop-done.invariant.low)

pub returns-in-Err-clause-filled : goal.returns-in-Err-clause-filled
returns-in-Err-clause-filled g c told frames =
    let same : c.read_part.new.report.hit + c.read_part.new.report.direct ≡ c.loop-done.done = stopped _ _ _ _ _ _ _ c.in-Err.ensures.part c.loop-done.invariant.counted (omega (arith, c.loop-done.invariant.low, c.requires.inside, c.length-length.ensures.value, c.length-length.ensures.most)) in
    filled_before c.loop-done.out c.read_part.new.out (content g.A.Archive.blobs c.args.table.now.number c.args.file) c.loop-done.done _ c.args.at _ same c.loop-done.invariant.low (c.loop-done.invariant.bytes told frames)

pub returns-in-Err-clause-untouched : goal.returns-in-Err-clause-untouched
returns-in-Err-clause-untouched g c =
    let same : c.read_part.new.report.hit + c.read_part.new.report.direct ≡ c.loop-done.done = stopped _ _ _ _ _ _ _ c.in-Err.ensures.part c.loop-done.invariant.counted (omega (arith, c.loop-done.invariant.low, c.requires.inside, c.length-length.ensures.value, c.length-length.ensures.most)) in
    let n = c.part_from-part.result.end - c.part_from-part.result.start in
    let fits : c.loop-done.done + n ≤ length c.loop-done.out = omega (arith, c.part_from-part.ensures.start, c.part_from-part.ensures.one.1) in
    let size : length (mid_of c.loop-done.done (c.loop-done.done + n - c.loop-done.done) c.loop-done.out) ≡ n = search rules in
    let new : length c.read_part.new.out ≡ n = omega (arith, size) in
    let short : n ≤ c.args.setting.now.config.range = short_part _ _ _ c.requires.limits.range.0 c.part_from-part.ensures.one.0 c.part_from-part.ensures.one.2 in
    untouched_behind c.loop-done.out c.read_part.new.out c.args.out.now c.loop-done.done (c.loop-done.done + n - c.loop-done.done) _ _ same (omega (arith, short)) (omega (arith, new)) c.loop-done.invariant.low c.loop-done.invariant.untouched

pub returns-in-Err-clause-empty : goal.returns-in-Err-clause-empty
returns-in-Err-clause-empty g c e = absurd (omega (arith, e, c.loop-done-test.true))

pub returns-clause-reached : goal.returns-clause-reached
returns-clause-reached g c = omega (arith, c.loop-done.invariant.counted, c.loop-done.invariant.low)

pub returns-clause-all : goal.returns-clause-all
returns-clause-all g c = omega (arith, c.loop-done.invariant.counted, c.loop-done.invariant.low, c.loop-done-test.false)

pub returns-clause-part : goal.returns-clause-part
returns-clause-part g c = rw (← c.loop-done.invariant.counted) at c.loop-done.invariant.part

pub returns-clause-filled : goal.returns-clause-filled
returns-clause-filled g c told frames = rw c.loop-done.invariant.counted (c.loop-done.invariant.bytes told frames)

pub returns-clause-untouched : goal.returns-clause-untouched
returns-clause-untouched g c = rw c.loop-done.invariant.counted (deeper c.loop-done.out c.args.out.now c.loop-done.done c.args.setting.now.config.range c.loop-done.invariant.untouched)

pub returns-clause-empty : goal.returns-clause-empty
returns-clause-empty g c e = let k = c.loop-done.invariant.empty e in (refl, k.0, k.1)

pub returns-in-Err-clause-entries : goal.returns-in-Err-clause-entries
returns-in-Err-clause-entries g c =
    let l = read_setting g.A.Archive.tells g.A.Archive.blobs c.args.table.now c.args.setting.now in
    let a = (g.D.CacheDoor.view c.args.door.now).actor in
    let range = c.args.setting.now.config.range in
    let end = c.args.at + length c.args.out.now in
    let x = (moment (g.S.BlobSource.view c.args.source.now) (g.D.CacheDoor.view c.args.door.now)) in
    let y = (moment (g.S.BlobSource.view c.loop-done.source) (g.D.CacheDoor.view c.loop-done.door)) in
    let z = (moment (g.S.BlobSource.view c.read_part.new.source) (g.D.CacheDoor.view c.read_part.new.door)) in
    let act : (g.D.CacheDoor.view c.loop-done.door).actor ≡ a = (g.met.D.CacheDoor.later _ _ c.loop-done.invariant.stays).actor in
    let mount = c.args.setting.now.mount in
    entries_refused (Unit {0}) c.in-Err.e l a c.args.file range c.args.at (c.args.at + c.loop-done.done) end c.part_from-part.result c.loop-done.invariant.part.counts c.in-Err.ensures.part.counts c.args.report.now c.loop-done.report c.read_part.new.report x y z
    c.requires.limits.range.0 (omega arith) c.part_from-part.ensures.start c.part_from-part.ensures.end c.loop-done.invariant.part.goes c.in-Err.ensures.part.goes
    c.in-Err.ensures.cause (λ seen t e. sym ((at_rest g.A.Archive.tells (content g.A.Archive.blobs) (g.D.CacheDoor.view c.read_part.new.door) t c.lesson-in-Err.ensures.agrees e).gone mount).0 ∙ seen) (rw act at c.in-Err.ensures.entries) c.loop-done.invariant.entries

pub returns-in-Err-clause-exact : goal.returns-in-Err-clause-exact
returns-in-Err-clause-exact g c =
    exactly_entries _ (g.D.CacheDoor.view c.args.door.now).actor (record { file = c.args.file; at = c.args.at; size = length c.args.out.now }) _ _ _ _ _
    (λ s e. (at_rest g.A.Archive.tells (content g.A.Archive.blobs) (g.D.CacheDoor.view c.args.door.now) s c.lesson.ensures.agrees e).config ∙ c.requires.own)
    (returns-in-Err-clause-entries g c)

pub returns-clause-entries : goal.returns-clause-entries
returns-clause-entries g c =
    let l = read_setting g.A.Archive.tells g.A.Archive.blobs c.args.table.now c.args.setting.now in
    let a = (g.D.CacheDoor.view c.args.door.now).actor in
    let range = c.args.setting.now.config.range in
    let end = c.args.at + length c.args.out.now in
    let x = (moment (g.S.BlobSource.view c.args.source.now) (g.D.CacheDoor.view c.args.door.now)) in
    let y = (moment (g.S.BlobSource.view c.loop-done.source) (g.D.CacheDoor.view c.loop-done.door)) in
    let all : c.args.at + c.loop-done.done ≡ end = omega (arith, c.loop-done.invariant.low, c.loop-done-test.false) in
    read_to_all l a c.args.file range c.args.at (c.args.at + c.loop-done.done) end c.args.report.now c.loop-done.report x y all c.loop-done.invariant.entries

pub returns-clause-exact : goal.returns-clause-exact
returns-clause-exact g c =
    exactly_entries _ (g.D.CacheDoor.view c.args.door.now).actor (record { file = c.args.file; at = c.args.at; size = length c.args.out.now }) _ _ _ _ _
    (λ s e. (at_rest g.A.Archive.tells (content g.A.Archive.blobs) (g.D.CacheDoor.view c.args.door.now) s c.lesson.ensures.agrees e).config ∙ c.requires.own)
    (returns-clause-entries g c)

pub returns-in-Err-clause-stays : goal.returns-in-Err-clause-stays
returns-in-Err-clause-stays g c = g.met.D.CacheDoor.stays_on _ _ _ c.loop-done.invariant.stays c.read_part.ensures.stays
