use Rattle.std.proofs.Common.{refl}
use Rattle.region_checks.proofs.trackers.status_of_the_second.Goals as goal

pub status-requires : goal.status-requires
status-requires c = rw c.requires refl
