use Rattle.std.proofs.Common.{arith, ◌≡◌, ◌+◌, ap, refl, subst, length, Bool, Ok, Err, ◌∙◌}
use Rattle.cache_door.specs.Doors.{HoldView, hold_view, storing}
use Rattle.std.specs.Prelude.{option_map}
use Rattle.cache_door.specs.Machine.{hold_at}
use Rattle.cache_reader.proofs.Joins.{door_step, worked_idle}
use Rattle.cache_reader.proofs.Fills.{filling_more, partly_refused, partly_filled, whole_filled, piece_all, piece_some, places_are}
use Rattle.blob_parts.specs.Content.{content, content_places, slice_of}
use Rattle.blob_parts.specs.Tables.{file_length}
use Rattle.cache_reader.proofs.Fills.{filling_none}
use Rattle.cache_reader.proofs.Answered.{failed_fetch}
use Rattle.cache_reader.proofs.Rooms.{policy_more, policy_same}
use Rattle.cache_reader.proofs.States.{failed_kept}
use Rattle.cache_reader.proofs.Stores.{stored_none, stored_more, stored_all, at_rest}
use Rattle.cache_reader.proofs.filling.fill.Goals as goal

pub loop-at-preserved : goal.loop-at-preserved
loop-at-preserved g c =
    let goes = rw c.in-Ok-true.field-0-test at c.in-Ok-true.ensures.goes in
    let hold = rw c.in-Ok-true.field-0-test at c.in-Ok-true.ensures.hold in
    record {
      low = omega arith;
      high = omega (arith, c.min-len.ensures);
      stays = g.met.D.CacheDoor.stays_on _ _ _ c.loop-at.invariant.stays c.store_piece.ensures.stays;
      hold = hold ∙ ap (λ (t : HoldView). record t { upto = t.upto + c.min-len.result }) c.loop-at.invariant.hold;
      kept = policy_more _ _ _ c.loop-at.invariant.kept c.store_piece.ensures.kept;
      stored = λ told s e.
          let act = (g.met.D.CacheDoor.later _ _ c.loop-at.invariant.stays).actor in
          let size : length (content g.A.Archive.blobs c.args.table.now.number c.args.file) ≡ file_length c.args.table.now c.args.file = c.length-length.ensures.whole told ∙ c.length-length.ensures.value in
          let piece = slice_of (content g.A.Archive.blobs c.args.table.now.number c.args.file) (c.args.base + c.loop-at.at) c.min-len.result in
          let before = (g.D.CacheDoor.view c.loop-at.door).state in
          let now = (g.D.CacheDoor.view c.store_piece.new.door).state in
          stored_more _ (g.D.CacheDoor.view c.args.door.now).actor c.args.file c.args.base c.args.gap.start c.loop-at.at c.min-len.result c.args.gap.end s before now piece (g.D.CacheDoor.view c.loop-at.door).hold
          c.loop-at-test.true (omega (arith, c.min-len.ensures)) (omega (arith, size, c.requires.inside)) refl
          (λ t is. (let agrees = at_rest g.A.Archive.tells (content g.A.Archive.blobs) (g.D.CacheDoor.view c.loop-at.door) t c.lesson.ensures.agrees is in (agrees.good, agrees.hold ∙ ap (λ n. hold_view (hold_at t n)) act)))
          (ap (λ (t : HoldView). t.upto) c.loop-at.invariant.hold) (ap (λ (t : HoldView). t.gap_end) c.loop-at.invariant.hold ∙ c.requires.gap.1)
          (subst (λ n. now ≡ option_map (storing piece n) before) act (c.in-Ok-true.ensures.stored (ap Ok c.in-Ok-true.field-0-test) told))
          (c.loop-at.invariant.stored told s e);
      filled = filling_more _ c.args.file c.args.base c.args.gap.start c.loop-at.at c.min-len.result _ _ _ _ _ _ c.loop-at.invariant.low c.loop-at.invariant.filled goes c.store.ensures c.in-Ok-true.ensures.reads;
    }

pub returns-in-Ok-false-clause-partly : goal.returns-in-Ok-false-clause-partly
returns-in-Ok-false-clause-partly g c =
    let goes = rw c.in-Ok-false.field-0-test at c.in-Ok-false.ensures.goes in
    partly_refused _ c.args.file c.args.base c.args.gap.start c.loop-at.at c.min-len.result c.args.gap.end _ _ _ _ _ _ _ c.loop-at.invariant.low (omega (arith, c.min-len.ensures, c.loop-at.invariant.high))
    (λ told. omega (arith, places_are g.A.Archive.blobs c.args.table.now.number c.args.file, c.length-length.ensures.whole told, c.length-length.ensures.value, c.requires.inside))
    c.loop-at.invariant.filled goes
    (door_step _ _ _ _ (g.met.D.CacheDoor.later _ _ c.fail.ensures.stays) c.fail.ensures.unmounted (worked_idle _ _ c.fail.ensures.work)) refl
    (λ enough calm still. still (c.in-Ok-false.ensures.frame (ap Ok c.in-Ok-false.field-0-test)))
    (λ told. piece_all (g.S.BlobSource.view c.loop-at.source).reads (g.S.BlobSource.view c.store_piece.new.source).reads (content_places g.A.Archive.blobs c.args.table.now.number c.args.file) (c.args.base + c.loop-at.at) c.min-len.result (c.in-Ok-false.ensures.reads told))

pub returns-in-Err-clause-partly : goal.returns-in-Err-clause-partly
returns-in-Err-clause-partly g c =
    partly_refused _ c.args.file c.args.base c.args.gap.start c.loop-at.at c.min-len.result c.args.gap.end _ _ _ _ _ _ _ c.loop-at.invariant.low (omega (arith, c.min-len.ensures, c.loop-at.invariant.high))
    (λ told. omega (arith, places_are g.A.Archive.blobs c.args.table.now.number c.args.file, c.length-length.ensures.whole told, c.length-length.ensures.value, c.requires.inside))
    c.loop-at.invariant.filled c.in-Err.ensures.goes
    (door_step _ _ _ _ (g.met.D.CacheDoor.later _ _ c.fail-in-Err.ensures.stays) c.fail-in-Err.ensures.unmounted (worked_idle _ _ c.fail-in-Err.ensures.work)) refl
    (λ enough calm still. calm (failed_fetch Bool c.in-Err.e _ (λ same. c.in-Err.ensures.fault (ap Err same)) enough))
    (λ told. piece_some (g.S.BlobSource.view c.loop-at.source).reads (g.S.BlobSource.view c.store_piece.new.source).reads (content_places g.A.Archive.blobs c.args.table.now.number c.args.file) (c.args.base + c.loop-at.at) c.min-len.result (c.in-Err.ensures.reads told))

pub returns-clause-partly : goal.returns-clause-partly
returns-clause-partly g c =
    let e : c.loop-at.at ≡ c.args.gap.end = omega (arith, c.loop-at.invariant.high, c.loop-at-test.false) in
    partly_filled _ c.args.file c.args.base c.args.gap.start c.args.gap.end _ _ _ _ _ (omega (arith, c.requires.gap))
    (λ told. omega (arith, places_are g.A.Archive.blobs c.args.table.now.number c.args.file, c.length-length.ensures.whole told, c.length-length.ensures.value, c.requires.inside))
    (rw e at c.loop-at.invariant.filled)

pub returns-clause-whole : goal.returns-clause-whole
returns-clause-whole g c is =
    let e : c.loop-at.at ≡ c.args.gap.end = omega (arith, c.loop-at.invariant.high, c.loop-at-test.false) in
    whole_filled _ c.args.file c.args.base c.args.gap.start c.args.gap.end _ _ _ _ (omega (arith, c.requires.gap))
    (λ told. omega (arith, places_are g.A.Archive.blobs c.args.table.now.number c.args.file, c.length-length.ensures.whole told, c.length-length.ensures.value, c.requires.inside))
    (rw e at c.loop-at.invariant.filled)

pub loop-at-init : goal.loop-at-init
loop-at-init g c = record {
  low = omega arith;
  high = omega (arith, c.requires.gap);
  stays = g.met.D.CacheDoor.stays_same _;
  hold = (let t = (g.D.CacheDoor.view c.args.door.now).hold in ap (λ n. let k : HoldView = record t { upto = n } in k) c.requires.gap.0);
  kept = policy_same _;
  stored = λ told s e. stored_none _ _ _ _ _ _ _ _ e c.requires.gap.2;
  filled = filling_none _ _ _ _ _ _;
}

pub returns-in-Ok-false-clause-kept : goal.returns-in-Ok-false-clause-kept
returns-in-Ok-false-clause-kept g c = failed_kept _ _ _ _ (policy_more _ _ _ c.loop-at.invariant.kept c.store_piece.ensures.kept) c.fail.ensures.state

pub returns-in-Err-clause-kept : goal.returns-in-Err-clause-kept
returns-in-Err-clause-kept g c = failed_kept _ _ _ _ (policy_more _ _ _ c.loop-at.invariant.kept c.store_piece.ensures.kept) c.fail-in-Err.ensures.state

pub returns-clause-stored : goal.returns-clause-stored
returns-clause-stored g c is told s known =
    let e : c.loop-at.at ≡ c.args.gap.end = omega (arith, c.loop-at.invariant.high, c.loop-at-test.false) in
    stored_all _ _ _ _ c.args.gap s _ (rw e at (c.loop-at.invariant.stored told s known))

pub returns-clause-took : goal.returns-clause-took
returns-clause-took g c is told =
    let e : c.loop-at.at ≡ c.args.gap.end = omega (arith, c.loop-at.invariant.high, c.loop-at-test.false) in
    (rw e at c.loop-at.invariant.filled).took told
