use Rattle.text_lines.proofs.Cuts.{run_through, to_newline, to_backslash, is_backslash}
use Rattle.text_lines.proofs.steps.take_step.Goals as goal

pub returns-in_default-clause-lands : goal.returns-in_default-clause-lands
returns-in_default-clause-lands c = λ u k.
    rw (c.if-slash.false, c.in_ok-extend.ensures.ok) (run_through c.args.content.now k c.args.bytes.now u c.in_default.ensures)

pub returns-then-bytes-run-eq10-clause-lands : goal.returns-then-bytes-run-eq10-clause-lands
returns-then-bytes-run-eq10-clause-lands c = λ u k.
    let found = c.in-Some.ensures in
    rw (c.if-slash.false, c.in_ok-extend-2.ensures.ok) (to_newline c.args.content.now k c.args.bytes.now u c.in-Some.run' found.0.high found.0.before c.if-bytes-run-eq10.true)

pub returns-clause-lands : goal.returns-clause-lands
returns-clause-lands c = λ u k.
    let found = c.in-Some.ensures in
    let is = is_backslash _ found.1 c.if-bytes-run-eq10.false in
    rw (c.if-slash.false, c.in_ok-extend-2.ensures.ok) (to_backslash c.args.content.now k c.args.bytes.now u c.in-Some.run' found.0.high found.0.before is)
