use Rattle.std.proofs.Common.{length, rules}
use Rattle.cache_outside.specs.Listing.{blob_bytes}
use Rattle.blob_parts.specs.Content.{places}
use Rattle.blob_parts.proofs.Grown.{grown_front}
use Rattle.blob_parts.proofs.Taken.{took_more, took_front, places_front}
use Rattle.blob_parts.proofs.loading.fill.Goals as goal

pub loop-done-preserved : goal.loop-done-preserved
loop-done-preserved g c =
    let more = c.in-Ok.ensures in (
      search rules,
      search rules,
      search rules,
      λ tells. grown_front c.loop-done.out c.read_blob.new.out (blob_bytes g.A.Archive.blobs c.args.blob) c.loop-done.done c.in-Ok.count _ (search rules) (search rules) (c.loop-done.invariant.3 tells) (more.bytes tells),
      took_more _ _ _ c.args.blob c.loop-done.done c.in-Ok.count c.loop-done.invariant.4 more.reads,
    )

pub returns-in-Err-clause-reads : goal.returns-in-Err-clause-reads
returns-in-Err-clause-reads g c =
    took_front _ _ _ (places c.args.blob 0 (length c.args.out.now)) (places c.args.blob 0 c.loop-done.done) c.loop-done.done (c.in-Err.ensures.unread (search rules)) (places_front c.args.blob 0 c.loop-done.done (length c.args.out.now) (search rules)) c.loop-done.invariant.4
