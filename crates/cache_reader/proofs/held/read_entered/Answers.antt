use Rattle.std.proofs.Common.{arith, ◌≡◌, ◌∙◌, Ok, Err, true, false, ap, length, refl}
use Rattle.region_ranges.specs.Keys.{manifest_of}
use Rattle.region_cell.specs.Cells.{file_of, part_of}
use Rattle.blob_parts.specs.Content.{content, content_places, slice_of}
use Rattle.cache_reader.proofs.Fills.{piece_most, piece_some, whole_places}
use Rattle.cache_reader.proofs.Answered.{refused_by}
use Rattle.cache_reader.proofs.Ends.{part_copied, part_direct, part_refused, region_slice}
use Rattle.cache_reader.proofs.Joins.{source_step}
use Rattle.cache_reader.proofs.States.{grew_then}
use Rattle.cache_reader.proofs.held.read_entered.Goals as goal

pub returns-in-Ok-true-clause-bytes : goal.returns-in-Ok-true-clause-bytes
returns-in-Ok-true-clause-bytes g c told frames =
    let h = (g.D.CacheDoor.view c.args.door.now).hold in
    c.in-Ok-true.ensures.bytes (ap Ok c.in-Ok-true.field-0-test) told frames
    ∙ region_slice (content g.A.Archive.blobs) c.args.table.now.number c.args.file (manifest_of h.tag) (file_of h.tag) (part_of h.tag) (g.D.CacheDoor.view c.args.door.now).config.region h.sub.start h.sub.end c.args.base c.args.at (length c.args.out.now)
    c.requires.place.0 c.requires.place.1 c.requires.place.2 c.requires.at c.requires.part.0 c.requires.part.1 c.requires.part.2

pub returns-in-Ok-true-clause-part : goal.returns-in-Ok-true-clause-part
returns-in-Ok-true-clause-part g c =
    let same : length c.read_held.new.out ≡ length c.args.out.now = omega arith in
    part_copied _ (length c.args.out.now) _ _ _ _ _ _ _ (c.in-Ok-true.ensures.whole (ap Ok c.in-Ok-true.field-0-test)) (rw same at c.copy.ensures)

pub returns-in-Ok-clause-part : goal.returns-in-Ok-clause-part
returns-in-Ok-clause-part g c =
    let same : length c.read_held.new.out ≡ length c.args.out.now = omega arith in
    part_direct _ (length c.args.out.now) _ 0 true _ _ _ _ _ _ _ c.requires.small c.requires.part.3 c.in-Ok-false.ensures.partly (c.in-Ok-false.ensures.turned (ap Ok c.in-Ok-false.field-0-test)) refl
    (source_step _ _ _ _ _ c.direct.ensures.source) (λ e. rw same at c.in-Ok.ensures.report) (λ e. absurd (cc)) (λ e l. absurd (cc))
    (λ told.
    let n = length c.args.out.now in
    let size : length c.direct.new.out ≡ n = omega arith in
    let places = content_places g.A.Archive.blobs c.args.table.now.number c.args.file in
    (slice_of places c.args.at n, rw same at (c.in-Ok.ensures.reads told), piece_most places c.args.at n, λ e. whole_places g.A.Archive.blobs c.args.table.now.number c.args.file c.args.at n c.direct.new.out (rw same at (c.in-Ok.ensures.bytes told)) size))

pub returns-in-Err-clause-part : goal.returns-in-Err-clause-part
returns-in-Err-clause-part g c =
    let same : length c.read_held.new.out ≡ length c.args.out.now = omega arith in
    part_direct _ (length c.args.out.now) _ 0 false _ _ _ _ _ _ _ c.requires.small c.requires.part.3 c.in-Ok-false.ensures.partly (c.in-Ok-false.ensures.turned (ap Ok c.in-Ok-false.field-0-test)) refl
    (source_step _ _ _ _ _ c.direct.ensures.source) (λ e. absurd (cc)) (λ e. c.in-Err.ensures.unreported refl) (λ e l. refused_by (Unit {0}) c.in-Err.e _ (λ same. c.in-Err.ensures.source.failed (ap Err same)) (λ m same. c.in-Err.ensures.present m (ap Err same)) l)
    (λ told.
    let p = piece_some (g.S.BlobSource.view c.read_held.new.source).reads (g.S.BlobSource.view c.direct.new.source).reads (content_places g.A.Archive.blobs c.args.table.now.number c.args.file) c.args.at (length c.args.out.now) (rw same at (c.in-Err.ensures.reads told)) in
    (p.0, p.1, p.2, λ e. absurd (cc)))

pub returns-in-Ok-true-clause-exact : goal.returns-in-Ok-true-clause-exact
returns-in-Ok-true-clause-exact g c told enough calm still s e one unfailed =
    let is = ap Ok c.in-Ok-true.field-0-test in
    let whole = c.in-Ok-true.ensures.whole is in record {
      places = c.in-Ok-true.ensures.took is told;
      fetched = grew_then _ _ _ _ whole.report.fetched c.copy.ensures.fetched;
      direct = grew_then _ _ _ _ whole.report.direct c.copy.ensures.direct;
      state = c.in-Ok-true.ensures.stored is told s e;
    }

pub returns-in-Ok-clause-exact : goal.returns-in-Ok-clause-exact
returns-in-Ok-clause-exact g c told enough calm still s e one unfailed = absurd (c.in-Ok-false.ensures.copies told s e one unfailed still (ap Ok c.in-Ok-false.field-0-test))

pub returns-in-Err-clause-exact : goal.returns-in-Err-clause-exact
returns-in-Err-clause-exact g c told enough calm still s e one unfailed = absurd (c.in-Ok-false.ensures.copies told s e one unfailed still (ap Ok c.in-Ok-false.field-0-test))

pub returns-in-Err-Fault-clause-exact : goal.returns-in-Err-Fault-clause-exact
returns-in-Err-Fault-clause-exact g c told enough calm still s e one unfailed = absurd (calm (c.in-Err-Fault.ensures.fault (ap Err c.in-Err-Fault.field-0-is)))

pub returns-in-Err-NoMemory-clause-exact : goal.returns-in-Err-NoMemory-clause-exact
returns-in-Err-NoMemory-clause-exact g c told enough calm still s e one unfailed = absurd (cc)

pub returns-in-Err-Fault-clause-part : goal.returns-in-Err-Fault-clause-part
returns-in-Err-Fault-clause-part g c = part_refused _ _ _ _ _ _ _ _ c.in-Err-Fault.ensures.partly (λ u. c.in-Err-Fault.ensures.fault (ap Err c.in-Err-Fault.field-0-is))

pub returns-in-Err-NoMemory-clause-part : goal.returns-in-Err-NoMemory-clause-part
returns-in-Err-NoMemory-clause-part g c = part_refused _ _ _ _ _ _ _ _ c.in-Err-NoMemory.ensures.partly (λ u. absurd (cc))
