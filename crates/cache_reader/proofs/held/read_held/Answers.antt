use Rattle.std.proofs.Common.{◌≡◌, ◌∙◌, true, Ok, Some, ap, refl}
use Rattle.blob_parts.specs.Content.{content}
use Rattle.cache_reader.specs.Alone.{Copies}
use Rattle.cache_reader.specs.Parts.{read_setting}
use Rattle.cache_reader.specs.Stored.{gap_stored}
use Rattle.cache_reader.proofs.Joins.{rose_first, door_step, worked_idle}
use Rattle.cache_reader.proofs.Ends.{partly_then, whole_then}
use Rattle.cache_reader.proofs.States.{left_kept, left_at, held_copies, same_bytes}
use Rattle.cache_reader.proofs.Stores.{at_rest, told_of}
use Rattle.cache_reader.proofs.held.read_held.Goals as goal

pub returns-in-Ok-true-clause-kept : goal.returns-in-Ok-true-clause-kept
returns-in-Ok-true-clause-kept g c = left_kept _ _ _ _ c.fill_gap.ensures.kept c.copy_held.ensures.left

pub returns-in-Ok-true-clause-stored : goal.returns-in-Ok-true-clause-stored
returns-in-Ok-true-clause-stored g c is told s e =
    left_at _ _ _ _ _ c.copy_held.ensures.left (c.in-Ok-true.ensures.stored (ap Ok c.in-Ok-true.field-0-test) told s e) (g.met.D.CacheDoor.later _ _ c.fill_gap.ensures.stays).actor

pub returns-in-Ok-true-clause-took : goal.returns-in-Ok-true-clause-took
returns-in-Ok-true-clause-took g c is told = c.in-Ok-true.ensures.took (ap Ok c.in-Ok-true.field-0-test) told

pub returns-in-Ok-true-clause-copies : goal.returns-in-Ok-true-clause-copies
returns-in-Ok-true-clause-copies g c told s e one unfailed still is =
    let l = read_setting g.A.Archive.tells g.A.Archive.blobs c.args.table.now c.args.setting.now in
    let a = (g.D.CacheDoor.view c.args.door.now).actor in
    let b = (g.D.CacheDoor.view c.fill_gap.new.door).actor in
    let t = gap_stored l a c.args.file c.args.base c.args.gap s in
    let now : (g.D.CacheDoor.view c.fill_gap.new.door).state ≡ Some t = c.in-Ok-true.ensures.stored (ap Ok c.in-Ok-true.field-0-test) told s e in
    let agrees = at_rest g.A.Archive.tells (content g.A.Archive.blobs) (g.D.CacheDoor.view c.fill_gap.new.door) t c.lesson.ensures.agrees now in
    let copies = told_of (Copies b (g.D.CacheDoor.view c.fill_gap.new.door).frame_faults (g.D.CacheDoor.view c.copy_held.new.door).frame_faults c.copy_held.result) (g.D.CacheDoor.view c.fill_gap.new.door).state t c.copy_held.ensures.copies now in
    let all : c.copy_held.result ≡ true = held_copies l a b c.args.file c.args.base c.args.gap s (g.D.CacheDoor.view c.fill_gap.new.door).hold (g.D.CacheDoor.view c.args.door.now).frame_faults (g.D.CacheDoor.view c.fill_gap.new.door).frame_faults (g.D.CacheDoor.view c.copy_held.new.door).frame_faults c.copy_held.result
    unfailed one agrees.good agrees.hold (g.met.D.CacheDoor.later _ _ c.fill_gap.ensures.stays).actor c.in-Ok-true.ensures.hold copies c.fill_gap.ensures.partly.goes.frame_faults still in
    (cc)

pub returns-in-Ok-false-clause-kept : goal.returns-in-Ok-false-clause-kept
returns-in-Ok-false-clause-kept g c = left_kept _ _ _ _ c.fill_gap.ensures.kept c.leave.ensures.state

pub returns-in-Ok-false-clause-copies : goal.returns-in-Ok-false-clause-copies
returns-in-Ok-false-clause-copies g c told s e one unfailed still is = still (rose_first _ _ _ (g.met.D.CacheDoor.later _ _ c.leave.ensures.stays).faults (c.in-Ok-false.ensures.frame (ap Ok c.in-Ok-false.field-0-test)))

pub returns-in-Err-clause-kept : goal.returns-in-Err-clause-kept
returns-in-Err-clause-kept g c = left_kept _ _ _ _ c.fill_gap.ensures.kept c.leave-in-Err.ensures.state

pub returns-in-Ok-true-clause-bytes : goal.returns-in-Ok-true-clause-bytes
returns-in-Ok-true-clause-bytes g c is told frames =
    let all : c.copy_held.result ≡ true = (cc) in
    c.copy_held.ensures.bytes all told ((g.met.D.CacheDoor.later _ _ c.fill_gap.ensures.stays).frames_tell ∙ frames)
    ∙ same_bytes (content g.A.Archive.blobs) _ _ _ _ (g.met.D.CacheDoor.later _ _ c.fill_gap.ensures.stays).config c.fill_gap.ensures.same_hold

pub returns-in-Ok-true-clause-partly : goal.returns-in-Ok-true-clause-partly
returns-in-Ok-true-clause-partly g c =
    partly_then _ _ _ _ _ _ _ _ c.in-Ok-true.ensures.partly (door_step _ (g.S.BlobSource.view c.fill_gap.new.source) _ _ (g.met.D.CacheDoor.later _ _ c.copy_held.ensures.stays) c.copy_held.ensures.unmounted c.copy_held.ensures.work) refl

pub returns-in-Ok-true-clause-whole : goal.returns-in-Ok-true-clause-whole
returns-in-Ok-true-clause-whole g c is =
    whole_then _ _ _ _ _ _ _ (c.in-Ok-true.ensures.whole (ap Ok c.in-Ok-true.field-0-test)) (door_step _ (g.S.BlobSource.view c.fill_gap.new.source) _ _ (g.met.D.CacheDoor.later _ _ c.copy_held.ensures.stays) c.copy_held.ensures.unmounted c.copy_held.ensures.work) refl

pub returns-in-Ok-false-clause-partly : goal.returns-in-Ok-false-clause-partly
returns-in-Ok-false-clause-partly g c =
    partly_then _ _ _ _ _ _ _ _ c.in-Ok-false.ensures.partly (door_step _ (g.S.BlobSource.view c.fill_gap.new.source) _ _ (g.met.D.CacheDoor.later _ _ c.leave.ensures.stays) c.leave.ensures.unmounted (worked_idle _ _ c.leave.ensures.work)) refl

pub returns-in-Err-clause-partly : goal.returns-in-Err-clause-partly
returns-in-Err-clause-partly g c =
    partly_then _ _ _ _ _ _ _ _ c.in-Err.ensures.partly (door_step _ (g.S.BlobSource.view c.fill_gap.new.source) _ _ (g.met.D.CacheDoor.later _ _ c.leave-in-Err.ensures.stays) c.leave-in-Err.ensures.unmounted (worked_idle _ _ c.leave-in-Err.ensures.work)) refl
