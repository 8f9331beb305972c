use Rattle.std.proofs.Common.{ℕ, List, ap}
use Rattle.doc_bits.specs.Counts.{Counted}
use Rattle.doc_bits.proofs.PlaneLemmas.{laid_out_new, counts_new}
use Rattle.doc_bits.proofs.tally.Tally.new.Goals as goal

abbrev none_added : List ℕ → Counted
none_added counts = record { added = 0; counts = counts }

pub invariant_of-result : goal.invariant_of-result
invariant_of-result c = laid_out_new c.args.n c.in_ok-planes.planes.items c.in_ok-carry.carry c.in_ok-planes.ensures c.in_ok-carry.ensures

pub returns : goal.returns
returns c = ap none_added (counts_new c.args.n c.in_ok-planes.planes.items c.in_ok-carry.carry c.in_ok-planes.ensures c.in_ok-carry.ensures)
