use Rattle.std.proofs.Common.{◌≡◌, ◌+◌, drop}
use Rattle.std.specs.Prelude.{◌==◌, not, find}
use Rattle.std.specs.List.{prefix_len}
use Rattle.sparse_tracker.proofs.gaps.find_gap.Given as goal

abbrev pub invariant-loop-at : goal.invariant-loop-at
invariant-loop-at l =
    (prefix_len (λ o. not (o.id == l.id)) l.gaps ≡ l.at + prefix_len (λ o. not (o.id == l.id)) (drop l.at l.gaps))
    × (find (λ o. o.id == l.id) (drop l.at l.gaps) ≡ find (λ o. o.id == l.id) l.gaps)
