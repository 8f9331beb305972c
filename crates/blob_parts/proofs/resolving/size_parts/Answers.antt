use Rattle.std.proofs.Common.{rules}
use Rattle.std.proofs.lemmas.Option.{slice_get-get_or}
use Rattle.blob_parts.proofs.Resolved.{sized_next, sized_stop, refused_whole, all_sized}
use Rattle.blob_parts.proofs.resolving.size_parts.Goals as goal

pub returns-in-Err-clause-wrong : goal.returns-in-Err-clause-wrong
returns-in-Err-clause-wrong g c tells =
    refused_whole _ _ _ (sized_stop g.A.Archive.blobs c.args.file.now c.args.blobs.now c.loop-k.k (search rules) (c.loop-k.invariant.0 tells)) (c.in-Err.ensures.wrong tells)

pub loop-k-preserved : goal.loop-k-preserved
loop-k-preserved g c = (
  λ tells. sized_next g.A.Archive.blobs c.args.file.now c.args.blobs.now c.loop-k.k _ (search rules) (slice_get-get_or c.args.blobs.now c.loop-k.k 0 (search rules)) (c.loop-k.invariant.0 tells) (c.in-Ok.ensures.wrong tells) (c.in-Ok.ensures.size tells),
  search rules,
  search rules,
  search rules,
)

pub returns-clause-sized : goal.returns-clause-sized
returns-clause-sized g c tells k blob at = all_sized g.A.Archive.blobs c.args.file.now c.args.blobs.now c.loop-k.k (c.loop-k.invariant.0 tells) (search rules) k blob at
