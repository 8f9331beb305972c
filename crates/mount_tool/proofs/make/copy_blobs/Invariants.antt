use Rattle.std.proofs.Common.{◌≡◌, take}
use Rattle.mount_tool.proofs.make.copy_blobs.Given as goal

abbrev pub invariant-loop-i : goal.invariant-loop-i
invariant-loop-i l = l.copy ≡ take l.i l.blobs
