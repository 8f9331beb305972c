use Rattle.std.proofs.Common.{sym, ◌∙◌}
use Rattle.cache_outside.proofs.Blobs.{blob_bytes_get}
use Rattle.cache_outside.proofs.listed.bytes_at.Goals as goal

pub returns : goal.returns
returns c = c.as_bytes.ensures ∙ sym (blob_bytes_get c.args.blobs.now c.args.k _ c.get.ensures)
