use Rattle.std.proofs.Common.{arith, ◌≡◌, ◌-◌, ◌∙◌, [], ◌∷◌, length, refl, sym, subst}
use Rattle.region_ranges.specs.declared.keys.Config.{Config}
use Rattle.region_ranges.specs.Keys.{tag_of, manifest_of}
use Rattle.region_cell.specs.Cells.{file_of, part_of}
use Rattle.blob_parts.specs.Content.{content}
use Rattle.blob_parts.specs.Tables.{file_length}
use Rattle.cache_reader.proofs.Joins.{door_step}
use Rattle.cache_reader.proofs.Ends.{part_after, part_copied, whole_none, whole_then, region_slice}
use Rattle.cache_reader.proofs.Entering.{Placed, placed}
use Rattle.cache_reader.specs.Reports.{no_bytes}
use Rattle.cache_reader.specs.Parts.{read_setting}
use Rattle.cache_reader.specs.Going.{moment}
use Rattle.cache_reader.specs.Alone.{LastFits, in_file}
use Rattle.cache_reader.proofs.Runs.{entries_one}
use Rattle.cache_reader.proofs.Entries.{known_of, entries_after, entries_glanced}
use Rattle.cache_reader.proofs.part.read_part.Goals as goal

pub returns-then-glance_last-clause-bytes : goal.returns-then-glance_last-clause-bytes
returns-then-glance_last-clause-bytes g c told frames =
    let w = c.want_at-want.result in
    let size = file_length c.args.table.now c.args.file in
    let own = placed c.args.setting.now.config c.args.table.now.number c.args.file size c.args.part w c.want_at-want.ensures.value c.want_at-want.ensures.wanted c.requires.part.0 c.requires.part.1 in
    let at = subst (λ (k : Config). Placed k c.args.table.now.number c.args.file size c.args.part w (c.args.part.start - w.sub.start)) (sym c.requires.own) own in
    c.glance_last.ensures.bytes c.if-glance_last.true told frames
    ∙ region_slice (content g.A.Archive.blobs) c.args.table.now.number c.args.file (manifest_of (tag_of w.key)) (file_of (tag_of w.key)) (part_of (tag_of w.key)) (g.D.CacheDoor.view c.args.door.now).config.region w.sub.start w.sub.end (c.args.part.start - w.sub.start) c.args.part.start (length c.args.out.now)
    at.manifest at.file at.base at.at (c.requires.len ∙ sym at.size) at.least at.most

pub returns-then-glance_last-clause-part : goal.returns-then-glance_last-clause-part
returns-then-glance_last-clause-part g c =
    let same : length c.glance_last.new.out ≡ c.args.part.end - c.args.part.start = omega arith in
    part_copied _ (c.args.part.end - c.args.part.start) 0 _ _ _ _ _ _
    (whole_then _ 0 _ _ _ _ _ (whole_none _ _ _) (door_step _ _ _ _ (g.met.D.CacheDoor.later _ _ c.glance_last.ensures.stays) c.glance_last.ensures.unmounted c.glance_last.ensures.work) refl) (rw same at c.copy.ensures)

pub returns-clause-part : goal.returns-clause-part
returns-clause-part g c =
    part_after _ _ _ _ _ _ _ _ (door_step _ _ _ _ (g.met.D.CacheDoor.later _ _ c.glance_last.ensures.stays) c.glance_last.ensures.unmounted c.glance_last.ensures.work) refl c.enter_part.ensures.part

pub returns-then-glance_last-clause-entries : goal.returns-then-glance_last-clause-entries
returns-then-glance_last-clause-entries g c =
    let l = read_setting g.A.Archive.tells g.A.Archive.blobs c.args.table.now c.args.setting.now in
    let a = (g.D.CacheDoor.view c.args.door.now).actor in
    let x = (moment (g.S.BlobSource.view c.args.source.now) (g.D.CacheDoor.view c.args.door.now)) in
    let y = (moment (g.S.BlobSource.view c.args.source.now) (g.D.CacheDoor.view c.glance_last.new.door)) in
    let w = c.want_at-want.result in
    entries_glanced {tells = g.A.Archive.tells} {files = content g.A.Archive.blobs} l a c.args.file c.args.part w (c.args.part.start - w.sub.start) (length c.glance_last.new.out) c.args.last.now c.args.setting.now.config _ c.args.report.now c.copy.new.self x y
    (λ told. told)
    (λ told s e. known_of l c.args.file (file_length c.args.table.now c.args.file) c.args.part w (g.D.CacheDoor.view c.args.door.now) s c.lesson.ensures.agrees e c.requires.free c.requires.own c.want_at-want.ensures.value (c.length-length.ensures.whole told ∙ c.length-length.ensures.value))
    (c.glance_last.ensures.looked c.if-glance_last.true) c.requires.fits refl c.want_at-want.ensures.wanted c.want_at-want.ensures.whole c.copy.ensures refl c.glance_last.ensures.same

pub returns-clause-entries : goal.returns-clause-entries
returns-clause-entries g c =
    let l = read_setting g.A.Archive.tells g.A.Archive.blobs c.args.table.now c.args.setting.now in
    let a = (g.D.CacheDoor.view c.args.door.now).actor in
    let x = (moment (g.S.BlobSource.view c.args.source.now) (g.D.CacheDoor.view c.args.door.now)) in
    let y = (moment (g.S.BlobSource.view c.args.source.now) (g.D.CacheDoor.view c.glance_last.new.door)) in
    let z = (moment (g.S.BlobSource.view c.enter_part.new.source) (g.D.CacheDoor.view c.enter_part.new.door)) in
    let act = (g.met.D.CacheDoor.later _ _ c.glance_last.ensures.stays).actor in
    entries_after l a (in_file c.args.file c.args.part ∷ []) _ no_bytes c.args.report.now c.enter_part.new.report x y z
    (door_step _ _ _ _ (g.met.D.CacheDoor.later _ _ c.glance_last.ensures.stays) c.glance_last.ensures.unmounted c.glance_last.ensures.work) refl c.glance_last.ensures.same (entries_one l a (in_file c.args.file c.args.part) _ c.args.report.now c.enter_part.new.report y z (rw act at c.enter_part.ensures.outcome))

pub returns-then-glance_last-clause-fits : goal.returns-then-glance_last-clause-fits
returns-then-glance_last-clause-fits g c =
    subst (λ o. LastFits c.args.setting.now.mount c.args.setting.now.time c.args.last.now o) (sym c.glance_last.ensures.same) c.requires.fits
