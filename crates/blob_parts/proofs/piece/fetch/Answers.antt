use Rattle.std.proofs.lemmas.Result.{err_from_is_err_and}
use Rattle.blob_parts.specs.Content.{content_places, slice_of}
use Rattle.blob_parts.specs.Reading.{took_none}
use Rattle.blob_parts.proofs.piece.fetch.Goals as goal

pub returns-in_err-bytes-clause-reads : goal.returns-in_err-bytes-clause-reads
returns-in_err-bytes-clause-reads g c tells =
    let p = err_from_is_err_and c.from_residual.result c.from_residual.ensures.1 in
    rw (p.1) (0, took_none (g.S.BlobSource.view c.args.source.now).reads (slice_of (content_places g.A.Archive.blobs c.args.table.now.number c.args.file) c.args.at c.args.len))
