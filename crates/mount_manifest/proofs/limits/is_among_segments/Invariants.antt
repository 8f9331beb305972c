use Rattle.std.proofs.Common.{◌≡◌, drop}
use Rattle.std.specs.List.{list_any}
use Rattle.mount_manifest.specs.Manifest.{same_segment}
use Rattle.mount_manifest.proofs.limits.is_among_segments.Given as goal

abbrev pub invariant-loop-other : goal.invariant-loop-other
invariant-loop-other l = list_any (same_segment l.segment) (drop l.other-index l.segments) ≡ list_any (same_segment l.segment) l.segments
