use Rattle.std.specs.Prelude.{IsSome, IfSome}
use Rattle.sparse_tracker.specs.ByteStates.{gap_of, ticket_of}
use Rattle.region_checks.proofs.trackers.claim_again.Given as goal

abbrev pub invariant-loop-time : goal.invariant-loop-time
invariant-loop-time l =
    IfSome l.claim.gap (λ g. IsSome (gap_of g.id l.tracker.tracker)) × IsSome (ticket_of l.claim.ticket l.tracker.tracker)
