use Rattle.std.proofs.Common.{◌≡◌, drop}
use Rattle.mount_manifest.specs.Manifest.{ends_with, is_part_end}
use Rattle.mount_manifest.proofs.names.ends_like_a_part.Given as goal

abbrev pub invariant-loop-from : goal.invariant-loop-from
invariant-loop-from l = ends_with is_part_end (drop l.from l.bytes) ≡ ends_with is_part_end l.bytes
