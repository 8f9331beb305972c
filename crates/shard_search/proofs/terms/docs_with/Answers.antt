use Rattle.std.proofs.Common.{ap, ◌∙◌, length}
use Rattle.shard_search.specs.Sets.{each_of, has_posting}
use Rattle.shard_search.proofs.TermLemmas.{set_is}
use Rattle.shard_search.proofs.SetLemmas.{length-each}
use Rattle.shard_search.proofs.terms.docs_with.Goals as goal

pub returns-clause-documents : goal.returns-clause-documents
returns-clause-documents g c = λ t rows are.
    c.in_ok-docs_of.ensures
    ∙ ap (λ ps. each_of (has_posting ps) c.args.docs) (c.as_slice.ensures.value ∙ c.in-Ok.ensures.documents t rows are)
    ∙ set_is c.args.field.now c.args.term.now rows c.args.docs

pub returns-clause-length : goal.returns-clause-length
returns-clause-length g c = ap length c.in_ok-docs_of.ensures ∙ length-each _ c.args.docs
