use Rattle.std.proofs.Common.{◌≡◌, drop}
use Rattle.mount_manifest.specs.Steps.{with_front, each}
use Rattle.mount_manifest.specs.Manifest.{placed}
use Rattle.mount_manifest.proofs.limits.all_placed.Given as goal

abbrev pub invariant-loop-segment : goal.invariant-loop-segment
invariant-loop-segment l = with_front l.list.items (each (placed l.files) (drop l.segment-index l.segments)) ≡ each (placed l.files) l.segments
