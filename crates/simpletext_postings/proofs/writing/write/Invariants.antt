use Rattle.std.proofs.Common.{◌≡◌, ◌<◌, ◌++◌, drop, None, true}
use Rattle.std.specs.Option.{option_copied}
use Rattle.simpletext_postings.specs.Rows.{are_rows}
use Rattle.simpletext_postings.specs.Written.{rows_lines}
use Rattle.simpletext_postings.proofs.writing.write.Given as goal

abbrev pub invariant-loop-i : goal.invariant-loop-i
invariant-loop-i l =
    (l.text ++ rows_lines (option_copied l.before) (drop l.i l.rows.rows) ≡ rows_lines None l.rows.rows)
    × (0 < l.i → are_rows l.rows.docs l.rows.rows ≡ true)
