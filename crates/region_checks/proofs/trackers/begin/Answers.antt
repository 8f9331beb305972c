use Rattle.std.proofs.Common.{◌∙◌, ap, arith, refl}
use Rattle.sparse_tracker.specs.ByteStates.{TrackerView, progress}
use Rattle.region_checks.proofs.trackers.begin.Goals as goal

pub progress-requires-clause-open : goal.progress-requires-clause-open
progress-requires-clause-open c = rw c.requires refl

pub progress-requires-clause-within : goal.progress-requires-clause-within
progress-requires-clause-within c = rw c.requires (omega arith, omega arith)

pub status-requires : goal.status-requires
status-requires c = rw (c.progress.ensures, c.requires) refl

pub returns : goal.returns
returns c = ap (λ (v : TrackerView). v.tracker) c.progress.ensures ∙ ap (progress 0 3) c.requires
