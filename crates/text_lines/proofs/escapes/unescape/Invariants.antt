use Rattle.std.proofs.Common.{◌≡◌, length}
use Rattle.text_lines.specs.Escapes.{put_front, unescape}
use Rattle.text_lines.proofs.escapes.unescape.Given as goal

abbrev pub invariant-loop-run : goal.invariant-loop-run
invariant-loop-run l = put_front l.text (unescape l.left) ≡ unescape l.bytes

abbrev pub decreases-loop-run : goal.decreases-loop-run
decreases-loop-run l = length l.left
