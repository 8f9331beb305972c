use Rattle.std.proofs.Common.{◌≡◌, drop}
use Rattle.mount_manifest.specs.Manifest.{all_file_limits}
use Rattle.mount_manifest.proofs.limits.all_file_limits.Given as goal

abbrev pub invariant-loop-file : goal.invariant-loop-file
invariant-loop-file l = all_file_limits l.sum (drop l.file-index l.files) ≡ all_file_limits 0 l.files
