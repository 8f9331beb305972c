use Rattle.std.proofs.Common.{◌≡◌, ◌++◌, take, drop}
use Rattle.std.specs.Prelude.{map}
use Rattle.sparse_tracker.specs.Kept.{mark}
use Rattle.sparse_tracker.proofs.tickets.mark_tickets.Given as goal

abbrev pub invariant-loop-at : goal.invariant-loop-at
invariant-loop-at l = take l.at l.tickets ++ map (mark l.gap) (drop l.at l.tickets) ≡ map (mark l.gap) l.initial.tickets
