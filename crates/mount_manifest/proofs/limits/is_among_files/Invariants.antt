use Rattle.std.proofs.Common.{◌≡◌, drop}
use Rattle.std.specs.List.{list_any}
use Rattle.mount_manifest.specs.Manifest.{same_file}
use Rattle.mount_manifest.proofs.limits.is_among_files.Given as goal

abbrev pub invariant-loop-other : goal.invariant-loop-other
invariant-loop-other l = list_any (same_file l.file) (drop l.other-index l.files) ≡ list_any (same_file l.file) l.files
