use Rattle.std.proofs.Common.{ap, sym, ◌∙◌, Some, arith, length}
use Rattle.std.specs.Prelude.{true}
use Rattle.std.proofs.lemmas.Option.{slice_get-get_or}
use Rattle.std.proofs.Math.ListN.{length-set}
use Rattle.shard_search.specs.Sets.{has_posting}
use Rattle.shard_search.proofs.TermLemmas.{one_more, all_done, is_below}
use Rattle.shard_search.proofs.SetLemmas.{from_nothing, length-nothing}
use Rattle.shard_search.proofs.terms.docs_of.Goals as goal

pub set-requires : goal.set-requires
set-requires c =
    let below = is_below 0 c.args.docs c.loop-posting.posting-index c.args.postings.now c.posting-item.result (slice_get-get_or _ _ _ c.loop-posting-test.true ∙ ap Some (sym c.posting-item.is)) c.requires in
    omega (arith, below, c.loop-posting.invariant.size)

pub loop-posting-init : goal.loop-posting-init
loop-posting-init c = record {
  size = ap length c.in_ok-bits.ensures ∙ length-nothing c.args.docs;
  made = rw c.in_ok-bits.ensures (from_nothing c.args.docs (has_posting c.args.postings.now));
}

pub loop-posting-preserved : goal.loop-posting-preserved
loop-posting-preserved c = record {
  size = ap length c.set.ensures ∙ length-set c.loop-posting.bits c.posting-item.result.doc true ∙ c.loop-posting.invariant.size;
  made = one_more c.args.postings.now c.loop-posting.posting-index c.args.docs c.posting-item.result c.loop-posting.bits c.set.new.self _
      (slice_get-get_or _ _ _ c.loop-posting-test.true ∙ ap Some (sym c.posting-item.is)) c.loop-posting.invariant.size c.set.ensures c.loop-posting.invariant.made;
}

pub returns : goal.returns
returns c = all_done c.args.postings.now c.loop-posting.posting-index c.args.docs c.loop-posting.bits _ c.loop-posting-test.false c.loop-posting.invariant.size c.loop-posting.invariant.made
