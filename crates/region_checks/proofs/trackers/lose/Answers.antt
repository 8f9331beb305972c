use Rattle.std.proofs.Common.{◌∙◌, ap, refl}
use Rattle.sparse_tracker.specs.ByteStates.{TrackerView, fail}
use Rattle.region_checks.proofs.trackers.lose.Goals as goal

pub fail-requires : goal.fail-requires
fail-requires c = rw c.requires refl

pub status-requires : goal.status-requires
status-requires c = rw (c.fail.ensures, c.requires) refl

pub returns : goal.returns
returns c = ap (λ (v : TrackerView). v.tracker) c.fail.ensures ∙ ap (fail 0) c.requires
