use Rattle.simpletext_stored.specs.declared.index.StoredIndex.{StoredIndex}
use Rattle.shard_search.proofs.FileLemmas.{whole_bytes}
use Rattle.shard_search.proofs.FetchLemmas.{not_opened, opened}
use Rattle.shard_search.proofs.fetching.index_of.Goals as goal

pub returns-in-Err-clause-documents : goal.returns-in-Err-clause-documents
returns-in-Err-clause-documents g c = λ t.
    let whole = whole_bytes _ c.open-input.result c.args.file c.open-input.ensures.fits c.open-input.ensures.whole t in
    rw c.refused_in.ensures (not_opened StoredIndex c.args.file c.args.docs c.in-Err.e _ _ whole (c.in-Err.ensures.documents t))

pub returns-in-Ok-clause-documents : goal.returns-in-Ok-clause-documents
returns-in-Ok-clause-documents g c = λ t.
    let whole = whole_bytes _ c.open-input.result c.args.file c.open-input.ensures.fits c.open-input.ensures.whole t in
    opened c.args.file c.args.docs _ _ whole (c.in-Ok.ensures.documents t)
