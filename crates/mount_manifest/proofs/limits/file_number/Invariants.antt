use Rattle.std.proofs.Common.{◌≡◌, drop}
use Rattle.std.specs.List.{position_from}
use Rattle.mount_manifest.specs.Manifest.{has_physical_name, file_number}
use Rattle.mount_manifest.proofs.limits.file_number.Given as goal

abbrev pub invariant-loop-i : goal.invariant-loop-i
invariant-loop-i l = position_from (has_physical_name l.name) l.i (drop l.i l.files) ≡ file_number l.files l.name
