use Rattle.std.proofs.Common.{◌≡◌, drop}
use Rattle.mount_manifest.specs.Manifest.{all_segment_limits}
use Rattle.mount_manifest.proofs.limits.all_segment_limits.Given as goal

abbrev pub invariant-loop-segment : goal.invariant-loop-segment
invariant-loop-segment l = all_segment_limits (drop l.segment-index l.segments) ≡ all_segment_limits l.segments
