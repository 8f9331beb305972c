use Rattle.std.proofs.Common.{◌≡◌, ◌<◌, ◌+◌, length}
use Rattle.mount_script.specs.Building.{block_count}
use Rattle.mount_script.specs.Scripts.{lines_of, entries, blocks_of, going_on}
use Rattle.mount_script.proofs.script.read_lines.Given as goal

abbrev pub invariant-loop-left : goal.invariant-loop-left
invariant-loop-left l =
    (going_on l.building (entries l.number (lines_of l.left)) ≡ blocks_of (entries 1 (lines_of l.text)))
    × (l.number + length (lines_of l.left) ≡ 1 + length (lines_of l.text))
    × (block_count l.building < l.number)

abbrev pub decreases-loop-left : goal.decreases-loop-left
decreases-loop-left l = length l.left
