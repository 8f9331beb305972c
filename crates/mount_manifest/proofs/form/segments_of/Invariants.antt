use Rattle.std.proofs.Common.{◌≡◌, drop}
use Rattle.std.specs.Prelude.{map}
use Rattle.serde_json.specs.View.{view}
use Rattle.mount_manifest.specs.Steps.{with_front, each}
use Rattle.mount_manifest.specs.Manifest.{segment_facts}
use Rattle.mount_manifest.proofs.form.segments_of.Given as goal

abbrev pub invariant-loop-value : goal.invariant-loop-value
invariant-loop-value l = with_front l.segments.items (each segment_facts (map view (drop l.value-index l.values))) ≡ each segment_facts (map view l.values)
