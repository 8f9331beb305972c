use Rattle.std.proofs.Common.{◌≡◌, take}
use Rattle.std.specs.Prelude.{sum_by}
use Rattle.mount_manifest.proofs.manifest.Manifest.docs_total.Given as goal

abbrev pub invariant-loop-segment : goal.invariant-loop-segment
invariant-loop-segment l = l.total ≡ sum_by (λ s. s.docs) (take l.segment-index l.segment-items)
