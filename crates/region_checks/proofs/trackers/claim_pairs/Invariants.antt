use Rattle.std.proofs.Common.{ℕ}
use Rattle.std.specs.Prelude.{IsSome}
use Rattle.sparse_tracker.specs.ByteStates.{gap_of, ticket_of}
use Rattle.region_checks.proofs.trackers.claim_pairs.Given as goal

abbrev pub invariant-loop-pair : goal.invariant-loop-pair
invariant-loop-pair l =
    ((g : ℕ) → IsSome (gap_of g l.initial.tracker.tracker) → IsSome (gap_of g l.tracker.tracker))
    × ((n : ℕ) → IsSome (ticket_of n l.initial.tracker.tracker) → IsSome (ticket_of n l.tracker.tracker))
