use Rattle.std.proofs.Common.{◌≡◌, [], take, drop}
use Rattle.mount_manifest.specs.Manifest.{no_doubles, same_file, physical_name_of}
use Rattle.mount_manifest.proofs.limits.no_double_files.Given as goal

abbrev pub invariant-loop-i : goal.invariant-loop-i
invariant-loop-i l = no_doubles same_file physical_name_of (take l.i l.files) (drop l.i l.files) ≡ no_doubles same_file physical_name_of [] l.files
