use Rattle.simpletext_postings.specs.declared.dictionary.Dictionary.{Dictionary}
use Rattle.shard_search.proofs.FileLemmas.{not_opened, opened, whole_bytes}
use Rattle.shard_search.proofs.files.dictionary.Goals as goal

pub returns-in-Err-clause-rows : goal.returns-in-Err-clause-rows
returns-in-Err-clause-rows g c = λ t.
    let whole = whole_bytes _ c.open-input.result c.args.segment.now.postings c.open-input.ensures.fits c.open-input.ensures.whole t in
    rw c.refused_in.ensures (not_opened Dictionary c.args.segment.now.postings c.args.segment.now.docs c.in-Err.e _ _ whole (c.in-Err.ensures.rows t))

pub returns-in-Ok-clause-rows : goal.returns-in-Ok-clause-rows
returns-in-Ok-clause-rows g c = λ t.
    let whole = whole_bytes _ c.open-input.result c.args.segment.now.postings c.open-input.ensures.fits c.open-input.ensures.whole t in
    opened c.args.segment.now.postings c.args.segment.now.docs _ _ whole (c.in-Ok.ensures.rows t)
