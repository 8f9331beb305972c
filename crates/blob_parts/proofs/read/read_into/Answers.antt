use Rattle.std.proofs.Common.{length, rules}
use Rattle.std.proofs.lemmas.List.{take-take}
use Rattle.blob_parts.specs.Content.{content, content_places, slice_of}
use Rattle.blob_parts.proofs.Grown.{grown}
use Rattle.blob_parts.proofs.Taken.{took_slice, took_front}
use Rattle.blob_parts.proofs.read.read_into.Goals as goal

pub loop-done-preserved : goal.loop-done-preserved
loop-done-preserved g c =
    let more = c.in-Ok.ensures in (
      search rules,
      search rules,
      search rules,
      λ tells. grown c.loop-done.out c.read_some.new.out (content g.A.Archive.blobs c.args.table.now.number c.args.file) c.loop-done.done c.in-Ok.count c.args.at _ (search rules) (search rules) (c.loop-done.invariant.3 tells) (more.bytes tells),
      λ tells. took_slice _ _ _ (content_places g.A.Archive.blobs c.args.table.now.number c.args.file) c.args.at c.loop-done.done c.in-Ok.count (c.loop-done.invariant.4 tells) (more.reads tells),
    )

pub returns-in-Err-clause-reads : goal.returns-in-Err-clause-reads
returns-in-Err-clause-reads g c tells =
    let places = content_places g.A.Archive.blobs c.args.table.now.number c.args.file in
    took_front _ _ _ (slice_of places c.args.at (length c.args.out.now)) (slice_of places c.args.at c.loop-done.done) c.loop-done.done (c.in-Err.ensures.unread (search rules)) (take-take c.loop-done.done (length c.args.out.now) _ (search rules)) (c.loop-done.invariant.4 tells)
