use Rattle.std.proofs.Common.{◌≡◌, ◌++◌, drop}
use Rattle.std.specs.List.{flat_map}
use Rattle.simpletext_postings.specs.Written.{position_line, position_lines}
use Rattle.simpletext_postings.proofs.writing.push_positions.Given as goal

abbrev pub invariant-loop-i : goal.invariant-loop-i
invariant-loop-i l = l.text ++ flat_map position_line (drop l.i l.positions) ≡ l.fn.text ++ position_lines l.positions
