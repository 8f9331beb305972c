use Rattle.std.proofs.Common.{◌≡◌, ◌++◌, length}
use Rattle.text_lines.specs.Escapes.{escape}
use Rattle.text_lines.proofs.escapes.escape.Given as goal

abbrev pub invariant-loop-run : goal.invariant-loop-run
invariant-loop-run l = l.text ++ escape l.left ≡ escape l.bytes

abbrev pub decreases-loop-run : goal.decreases-loop-run
decreases-loop-run l = length l.left
