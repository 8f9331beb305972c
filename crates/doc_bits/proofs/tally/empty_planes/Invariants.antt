use Rattle.std.proofs.Common.{◌≡◌, false, replicate}
use Rattle.doc_bits.proofs.tally.empty_planes.Given as goal

abbrev pub invariant-loop-plane : goal.invariant-loop-plane
invariant-loop-plane l = l.planes.items ≡ replicate l._plane (replicate l.n false)
