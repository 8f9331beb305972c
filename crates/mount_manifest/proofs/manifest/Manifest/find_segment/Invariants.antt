use Rattle.std.proofs.Common.{◌≡◌, drop}
use Rattle.std.specs.List.{position_from}
use Rattle.mount_manifest.specs.Manifest.{has_segment_name, segment_number}
use Rattle.mount_manifest.proofs.manifest.Manifest.find_segment.Given as goal

abbrev pub invariant-loop-i : goal.invariant-loop-i
invariant-loop-i l = position_from (has_segment_name l.name) l.i (drop l.i l.self.segments) ≡ segment_number l.self.segments l.name
