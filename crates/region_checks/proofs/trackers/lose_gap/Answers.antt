use Rattle.std.proofs.Common.{ap, sym, subst}
use Rattle.std.specs.Prelude.{IsSome}
use Rattle.sparse_tracker.specs.ByteStates.{Tracker, TrackerView, ticket_of}
use Rattle.region_checks.proofs.Opened.{ticket_outlasts}
use Rattle.region_checks.proofs.trackers.lose_gap.Goals as goal

pub returns-in-Some : goal.returns-in-Some
returns-in-Some c = λ n s.
    subst (λ (t : Tracker). IsSome (ticket_of n t)) (sym (ap (λ (v : TrackerView). v.tracker) c.fail.ensures)) (ticket_outlasts n c.in-Some.gap.id c.args.tracker.now.tracker s)
