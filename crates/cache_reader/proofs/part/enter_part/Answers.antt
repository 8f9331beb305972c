use Rattle.std.proofs.Common.{arith, ◌≡◌, ◌-◌, ◌∙◌, length, false, Err, Some, ap, sym, subst, refl}
use Rattle.blob_parts.specs.Content.{content_places}
use Rattle.cache_reader.proofs.Answered.{caused_by, caused_of, refused_of, on_answered, on_refused, piece_of}
use Rattle.cache_reader.proofs.Joins.{door_step, source_step, worked_idle}
use Rattle.cache_reader.proofs.Ends.{part_after, part_none, part_direct, partly_of, rose_away, worked_away}
use Rattle.cache_reader.proofs.Entering.{short_part}
use Rattle.cache_reader.proofs.Fills.{whole_places}
use Rattle.blob_parts.specs.Content.{content}
use Rattle.cache_reader.proofs.Entries.{known_of, entry_answers, exactly_held, exactly_passed, exactly_entered_gone}
use Rattle.blob_parts.specs.Tables.{file_length}
use Rattle.cache_door.specs.declared.answers.Entered.TheVariants.{Held, NoRoom, Gone}
use Rattle.cache_reader.specs.declared.part.Last.{Last}
use Rattle.cache_reader.specs.Parts.{read_setting}
use Rattle.cache_reader.specs.Going.{moment}
use Rattle.cache_reader.specs.Reader.{files_seen}
use Rattle.cache_reader.specs.Filling.{is_answered}
use Rattle.cache_reader.specs.Alone.{LastFits}
use Rattle.cache_reader.proofs.Rooms.{entered_fits, last_kept}
use Rattle.cache_reader.proofs.Stores.{at_rest}
use Rattle.cache_reader.proofs.part.enter_part.Goals as goal

pub returns-in-Ok-true-clause-part : goal.returns-in-Ok-true-clause-part
returns-in-Ok-true-clause-part g c =
    let work = rw c.in-Ok-Held.field-0-is at c.in-Ok-Held.ensures.work in
    part_after _ _ _ _ _ _ _ _ (door_step _ _ _ _ (g.met.D.CacheDoor.later _ _ c.enter.ensures.stays) c.enter.ensures.unmounted (worked_idle _ _ work)) refl
    (rw c.requires.len at c.in-Ok-true.ensures.part)

pub returns-in-Ok-false-clause-part : goal.returns-in-Ok-false-clause-part
returns-in-Ok-false-clause-part g c =
    let work = rw c.in-Ok-Held.field-0-is at c.in-Ok-Held.ensures.work in
    part_after _ _ _ _ _ _ _ _ (door_step _ _ _ _ (g.met.D.CacheDoor.later _ _ c.enter.ensures.stays) c.enter.ensures.unmounted (worked_idle _ _ work)) refl
    (rw c.requires.len at c.in-Ok-false.ensures.part)

pub returns-in-Ok-false-clause-bytes : goal.returns-in-Ok-false-clause-bytes
returns-in-Ok-false-clause-bytes g c told frames = c.in-Ok-false.ensures.bytes told ((g.met.D.CacheDoor.later _ _ c.enter.ensures.stays).frames_tell ∙ frames)

pub returns-in-Err-read_entered-clause-cause : goal.returns-in-Err-read_entered-clause-cause
returns-in-Err-read_entered-clause-cause g c =
    let l = read_setting g.A.Archive.tells g.A.Archive.blobs c.args.table.now c.args.setting.now in
    let x = moment (g.S.BlobSource.view c.args.source.now) (g.D.CacheDoor.view c.args.door.now) in
    let z = moment (g.S.BlobSource.view c.read_entered.new.source) (g.D.CacheDoor.view c.read_entered.new.door) in
    caused_by c.in-Err-read_entered.e (files_seen l x false) (files_seen l z false) (λ same. c.in-Err-read_entered.ensures.cause (ap Err same)) (λ m same. c.in-Err-read_entered.ensures.present m (ap Err same))

pub returns-in-Err-read_entered-clause-part : goal.returns-in-Err-read_entered-clause-part
returns-in-Err-read_entered-clause-part g c =
    let work = rw c.in-Ok-Held.field-0-is at c.in-Ok-Held.ensures.work in
    part_after _ _ _ _ _ _ _ _ (door_step _ _ _ _ (g.met.D.CacheDoor.later _ _ c.enter.ensures.stays) c.enter.ensures.unmounted (worked_idle _ _ work)) refl
    c.in-Err-read_entered.ensures.part

pub returns-in-Ok-NoRoom-clause-cause : goal.returns-in-Ok-NoRoom-clause-cause
returns-in-Ok-NoRoom-clause-cause g c =
    let l = read_setting g.A.Archive.tells g.A.Archive.blobs c.args.table.now c.args.setting.now in
    let x = moment (g.S.BlobSource.view c.args.source.now) (g.D.CacheDoor.view c.args.door.now) in
    let z = moment (g.S.BlobSource.view c.direct.new.source) (g.D.CacheDoor.view c.enter.new.self) in
    caused_of c.direct.result (files_seen l x false) (files_seen l z false) c.direct.ensures.source.failed c.direct.ensures.present

pub returns-in-Ok-NoRoom-clause-part : goal.returns-in-Ok-NoRoom-clause-part
returns-in-Ok-NoRoom-clause-part g c =
    let work = rw c.in-Ok-NoRoom.field-0-is at c.in-Ok-NoRoom.ensures.work in
    part_direct _ (c.args.part.end - c.args.part.start) 0 0 (is_answered c.direct.result) _ _ _ _ _ _ _ (omega arith) (short_part c.args.setting.now.config.range c.args.part.start c.args.part.end c.requires.limits.range.0 c.requires.part.0 c.requires.part.2)
    (partly_of _ _ _ _ (door_step _ _ _ _ (g.met.D.CacheDoor.later _ _ c.enter.ensures.stays) c.enter.ensures.unmounted (worked_away _ _ work)) refl)
    (rose_away _ _ work) refl (source_step _ _ _ _ _ c.direct.ensures.source)
    (on_answered c.direct.result _ (rw c.requires.len at c.direct.ensures.report)) (λ e. c.direct.ensures.unreported (on_refused c.direct.result e))
    (refused_of c.direct.result _ c.direct.ensures.source.failed c.direct.ensures.present)
    (λ told.
    let n = c.args.part.end - c.args.part.start in
    let size : length c.direct.new.out ≡ n = omega (arith, c.requires.len) in
    piece_of c.direct.result _ _ (content_places g.A.Archive.blobs c.args.table.now.number c.args.file) c.args.part.start n (rw c.requires.len at (c.direct.ensures.reads told))
    (λ e. whole_places g.A.Archive.blobs c.args.table.now.number c.args.file c.args.part.start n c.direct.new.out (on_answered c.direct.result _ (rw c.requires.len at (c.direct.ensures.bytes told)) e) size))

pub returns-in-Ok-Gone-clause-part : goal.returns-in-Ok-Gone-clause-part
returns-in-Ok-Gone-clause-part g c =
    let work = rw c.in-Ok-Gone.field-0-is at c.in-Ok-Gone.ensures.work in
    part_none _ _ _ _ _ (door_step _ _ _ _ (g.met.D.CacheDoor.later _ _ c.enter.ensures.stays) c.enter.ensures.unmounted (worked_idle _ _ work)) refl

pub returns-in-Err-clause-part : goal.returns-in-Err-clause-part
returns-in-Err-clause-part g c =
    part_none _ _ _ _ _ (door_step _ _ _ _ (g.met.D.CacheDoor.later _ _ c.enter.ensures.stays) c.enter.ensures.unmounted (worked_idle _ _ c.in-Err.ensures.work)) refl

pub returns-in-Ok-true-clause-outcome : goal.returns-in-Ok-true-clause-outcome
returns-in-Ok-true-clause-outcome g c =
    let l = read_setting g.A.Archive.tells g.A.Archive.blobs c.args.table.now c.args.setting.now in
    let d = g.D.CacheDoor.view c.args.door.now in
    let s = g.S.BlobSource.view c.args.source.now in
    let f = g.D.CacheDoor.view c.enter.new.self in
    let later = g.met.D.CacheDoor.later _ _ c.enter.ensures.stays in
    let z = moment (g.S.BlobSource.view c.read_entered.new.source) (g.D.CacheDoor.view c.read_entered.new.door) in
    exactly_held l d.actor c.args.file c.args.part c.args.want.now (c.args.part.start - c.args.want.now.sub.start) c.in-Ok-Held.region c.in-Ok-Held.gap _ c.args.report.now c.read_entered.new.report (moment s d) (moment s f) z
    (λ told t e. known_of l c.args.file (file_length c.args.table.now c.args.file) c.args.part c.args.want.now d t c.lesson.ensures.agrees e c.requires.free c.requires.own c.requires.want (c.length-length.ensures.whole told ∙ c.length-length.ensures.value))
    (entry_answers l s d f c.args.want.now (Held c.in-Ok-Held.region c.in-Ok-Held.gap) (rw c.in-Ok-Held.field-0-is at c.in-Ok-Held.ensures.answer) c.in-Ok-Held.ensures.state later)
    c.read_entered.ensures.part.goes.faults c.read_entered.ensures.part.goes.frame_faults (rw later.actor at c.in-Ok-true.ensures.exact)

pub returns-in-Ok-false-clause-outcome : goal.returns-in-Ok-false-clause-outcome
returns-in-Ok-false-clause-outcome g c =
    let l = read_setting g.A.Archive.tells g.A.Archive.blobs c.args.table.now c.args.setting.now in
    let d = g.D.CacheDoor.view c.args.door.now in
    let s = g.S.BlobSource.view c.args.source.now in
    let f = g.D.CacheDoor.view c.enter.new.self in
    let later = g.met.D.CacheDoor.later _ _ c.enter.ensures.stays in
    let z = moment (g.S.BlobSource.view c.read_entered.new.source) (g.D.CacheDoor.view c.read_entered.new.door) in
    exactly_held l d.actor c.args.file c.args.part c.args.want.now (c.args.part.start - c.args.want.now.sub.start) c.in-Ok-Held.region c.in-Ok-Held.gap _ c.args.report.now c.read_entered.new.report (moment s d) (moment s f) z
    (λ told t e. known_of l c.args.file (file_length c.args.table.now c.args.file) c.args.part c.args.want.now d t c.lesson.ensures.agrees e c.requires.free c.requires.own c.requires.want (c.length-length.ensures.whole told ∙ c.length-length.ensures.value))
    (entry_answers l s d f c.args.want.now (Held c.in-Ok-Held.region c.in-Ok-Held.gap) (rw c.in-Ok-Held.field-0-is at c.in-Ok-Held.ensures.answer) c.in-Ok-Held.ensures.state later)
    c.read_entered.ensures.part.goes.faults c.read_entered.ensures.part.goes.frame_faults (rw later.actor at c.in-Ok-false.ensures.exact)

pub returns-in-Err-read_entered-clause-outcome : goal.returns-in-Err-read_entered-clause-outcome
returns-in-Err-read_entered-clause-outcome g c =
    let l = read_setting g.A.Archive.tells g.A.Archive.blobs c.args.table.now c.args.setting.now in
    let d = g.D.CacheDoor.view c.args.door.now in
    let s = g.S.BlobSource.view c.args.source.now in
    let f = g.D.CacheDoor.view c.enter.new.self in
    let later = g.met.D.CacheDoor.later _ _ c.enter.ensures.stays in
    let z = moment (g.S.BlobSource.view c.read_entered.new.source) (g.D.CacheDoor.view c.read_entered.new.door) in
    exactly_held l d.actor c.args.file c.args.part c.args.want.now (c.args.part.start - c.args.want.now.sub.start) c.in-Ok-Held.region c.in-Ok-Held.gap _ c.args.report.now c.read_entered.new.report (moment s d) (moment s f) z
    (λ told t e. known_of l c.args.file (file_length c.args.table.now c.args.file) c.args.part c.args.want.now d t c.lesson.ensures.agrees e c.requires.free c.requires.own c.requires.want (c.length-length.ensures.whole told ∙ c.length-length.ensures.value))
    (entry_answers l s d f c.args.want.now (Held c.in-Ok-Held.region c.in-Ok-Held.gap) (rw c.in-Ok-Held.field-0-is at c.in-Ok-Held.ensures.answer) c.in-Ok-Held.ensures.state later)
    c.read_entered.ensures.part.goes.faults c.read_entered.ensures.part.goes.frame_faults (rw later.actor at c.in-Err-read_entered.ensures.exact)

pub returns-in-Ok-NoRoom-clause-outcome : goal.returns-in-Ok-NoRoom-clause-outcome
returns-in-Ok-NoRoom-clause-outcome g c =
    let l = read_setting g.A.Archive.tells g.A.Archive.blobs c.args.table.now c.args.setting.now in
    let d = g.D.CacheDoor.view c.args.door.now in
    let s = g.S.BlobSource.view c.args.source.now in
    let f = g.D.CacheDoor.view c.enter.new.self in
    let later = g.met.D.CacheDoor.later _ _ c.enter.ensures.stays in
    let z = moment (g.S.BlobSource.view c.direct.new.source) f in
    exactly_passed c.direct.result l d.actor c.args.file c.args.part c.args.want.now (c.args.part.start - c.args.want.now.sub.start) c.args.report.now c.direct.new.report (moment s d) (moment s f) z
    (λ told t e. known_of l c.args.file (file_length c.args.table.now c.args.file) c.args.part c.args.want.now d t c.lesson.ensures.agrees e c.requires.free c.requires.own c.requires.want (c.length-length.ensures.whole told ∙ c.length-length.ensures.value))
    (entry_answers l s d f c.args.want.now NoRoom (rw c.in-Ok-NoRoom.field-0-is at c.in-Ok-NoRoom.ensures.answer) c.in-Ok-NoRoom.ensures.state later)
    refl c.direct.ensures.source.failed c.direct.ensures.present (rw c.requires.len at c.direct.ensures.report) (λ told. rw c.requires.len at (c.direct.ensures.reads told))

pub returns-in-Ok-Gone-clause-outcome : goal.returns-in-Ok-Gone-clause-outcome
returns-in-Ok-Gone-clause-outcome g c =
    let l = read_setting g.A.Archive.tells g.A.Archive.blobs c.args.table.now c.args.setting.now in
    let d = g.D.CacheDoor.view c.args.door.now in
    let s = g.S.BlobSource.view c.args.source.now in
    let f = g.D.CacheDoor.view c.enter.new.self in
    let later = g.met.D.CacheDoor.later _ _ c.enter.ensures.stays in
    exactly_entered_gone l d.actor c.args.file c.args.part c.args.want.now (c.args.part.start - c.args.want.now.sub.start) _ c.args.report.now (moment s d) (moment s f)
    (λ told t e. known_of l c.args.file (file_length c.args.table.now c.args.file) c.args.part c.args.want.now d t c.lesson.ensures.agrees e c.requires.free c.requires.own c.requires.want (c.length-length.ensures.whole told ∙ c.length-length.ensures.value))
    (entry_answers l s d f c.args.want.now Gone (rw c.in-Ok-Gone.field-0-is at c.in-Ok-Gone.ensures.answer) c.in-Ok-Gone.ensures.state later)

pub returns-in-Err-clause-outcome : goal.returns-in-Err-clause-outcome
returns-in-Err-clause-outcome g c told enough calm still s is one = absurd (cc)

pub returns-in-Ok-true-clause-fits : goal.returns-in-Ok-true-clause-fits
returns-in-Ok-true-clause-fits g c =
    let a = (g.D.CacheDoor.view c.args.door.now).actor in
    let last : Last = record { key = c.args.want.now.key; region = c.in-Ok-Held.region } in
    last_kept c.args.setting.now.mount c.args.setting.now.time (Some last) (g.D.CacheDoor.view c.enter.new.self).state (g.D.CacheDoor.view c.read_entered.new.door).state c.read_entered.ensures.kept
    (subst (λ o. LastFits c.args.setting.now.mount c.args.setting.now.time (Some last) o) (sym c.in-Ok-Held.ensures.state)
    (entered_fits {tells = g.A.Archive.tells} {files = content g.A.Archive.blobs} a c.args.setting.now.mount c.args.setting.now.time c.args.want.now c.in-Ok-Held.region c.in-Ok-Held.gap (g.D.CacheDoor.view c.args.door.now).state
    (λ s e. (at_rest g.A.Archive.tells (content g.A.Archive.blobs) (g.D.CacheDoor.view c.args.door.now) s c.lesson.ensures.agrees e).good) (rw c.in-Ok-Held.field-0-is at c.in-Ok-Held.ensures.answer)))
