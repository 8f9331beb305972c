use Rattle.std.proofs.Common.{length}
use Rattle.shard_search.proofs.FileLemmas.{at_some}
use Rattle.shard_search.proofs.fetching.fetch_doc.Goals as goal

pub returns-clause-known : goal.returns-clause-known
returns-clause-known g c =
    let kept = c.segment-segment.ensures.kept in
    c.document_of.ensures.known (length c.args.shard.now.files)
    (at_some c.segment-segment.result.now.stored (length c.args.shard.now.files) kept.stored c.unwrap-file.result c.unwrap-file.ensures)
    (at_some c.segment-segment.result.now.live (length c.args.shard.now.files) kept.live)
