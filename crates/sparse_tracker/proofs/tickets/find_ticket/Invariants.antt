use Rattle.std.proofs.Common.{◌≡◌, ◌+◌, drop}
use Rattle.std.specs.Prelude.{◌==◌, not, find}
use Rattle.std.specs.List.{prefix_len}
use Rattle.sparse_tracker.proofs.tickets.find_ticket.Given as goal

abbrev pub invariant-loop-at : goal.invariant-loop-at
invariant-loop-at l =
    (prefix_len (λ k. not (k.number == l.number)) l.tickets ≡ l.at + prefix_len (λ k. not (k.number == l.number)) (drop l.at l.tickets))
    × (find (λ k. k.number == l.number) (drop l.at l.tickets) ≡ find (λ k. k.number == l.number) l.tickets)
