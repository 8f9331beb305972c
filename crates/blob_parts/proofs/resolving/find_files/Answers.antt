use Rattle.std.proofs.Common.{rules}
use Rattle.blob_parts.specs.Content.{missing_in}
use Rattle.blob_parts.specs.Entries.{parts_in}
use Rattle.blob_parts.proofs.Resolved.{file_stop, file_next, refused_whole, entries_next}
use Rattle.blob_parts.proofs.resolving.find_files.Goals as goal

pub returns-in-Err-clause-missing : goal.returns-in-Err-clause-missing
returns-in-Err-clause-missing g c tells =
    refused_whole _ _ _ (file_stop (missing_in g.A.Archive.blobs) c.args.manifest.now.files c.loop-i.i _ c.file-file.ensures.value (c.loop-i.invariant.2 tells)) (c.in-Err.ensures.missing tells)

pub loop-i-preserved : goal.loop-i-preserved
loop-i-preserved g c = (
  search rules,
  rw c.in_ok-push.ensures.items (entries_next g.A.Archive.tells g.A.Archive.blobs c.args.manifest.now.files parts_in _ _ c.loop-i.i _ c.loop-i.invariant.0 c.file-file.ensures.value c.loop-i.invariant.1
      (record { size = search rules; part_size = search rules; count = c.in-Ok.ensures.count; named = c.in-Ok.ensures.named })),
  λ tells. file_next (missing_in g.A.Archive.blobs) c.args.manifest.now.files c.loop-i.i _ c.file-file.ensures.value (c.loop-i.invariant.2 tells) (c.in-Ok.ensures.missing tells),
  search rules,
  search rules,
  search rules,
)
