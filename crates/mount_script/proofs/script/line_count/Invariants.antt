use Rattle.std.proofs.Common.{◌≡◌, ◌≤◌, ◌+◌, length}
use Rattle.mount_script.specs.Scripts.{lines_of}
use Rattle.mount_script.proofs.script.line_count.Given as goal

abbrev pub invariant-loop-left : goal.invariant-loop-left
invariant-loop-left l = (l.count + length (lines_of l.left) ≡ length (lines_of l.text)) × (l.count + length l.left ≤ length l.text)

abbrev pub decreases-loop-left : goal.decreases-loop-left
decreases-loop-left l = length l.left
