use Rattle.std.proofs.Common.{rules}
use Rattle.blob_parts.proofs.Resolved.{found_next, found_stop, refused_whole}
use Rattle.blob_parts.proofs.resolving.find_parts.Goals as goal

pub returns-in-Err-clause-missing : goal.returns-in-Err-clause-missing
returns-in-Err-clause-missing g c tells =
    refused_whole _ _ _ (found_stop g.A.Archive.blobs c.args.file.now c.loop-k.k _ (search rules) (c.loop-k.invariant.1 tells)) (c.in-Err.ensures.blob tells)

pub loop-k-preserved : goal.loop-k-preserved
loop-k-preserved g c = (
  search rules,
  λ tells. rw c.in_ok-push-in-Ok.ensures.items (found_next g.A.Archive.blobs c.args.file.now c.loop-k.k c.in-Ok.blob _ (search rules) c.loop-k.invariant.0 (c.loop-k.invariant.1 tells) (c.in-Ok.ensures.blob tells)),
  search rules,
  search rules,
  search rules,
)
