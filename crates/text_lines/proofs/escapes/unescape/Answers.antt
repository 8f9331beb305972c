use Rattle.std.proofs.Common.{◌∙◌, ◌<◌, ◌+◌, arith, length, sym, ap}
use Rattle.text_lines.specs.Escapes.{unescape, put_front}
use Rattle.text_lines.proofs.Cuts.{is_backslash}
use Rattle.text_lines.proofs.Undone.{unescape_newline, unescape_last, unescape_on, unescape_plain}
use Rattle.text_lines.proofs.escapes.unescape.Goals as goal
use Rattle.text_lines.proofs.escapes.unescape.Goals.{then-left-run-eq10-via-then-left-run-eq10, then-left-run-eq10-via-else-left-run-eq10+then-left-run-eq1}

pub returns-then-left-run-eq10 : goal.returns-then-left-run-eq10
returns-then-left-run-eq10 c =
    let found = c.in-Some.ensures in
    let i = c.loop-run in
    elim c.then-left-run-eq10.branch [
      | then-left-run-eq10-via-then-left-run-eq10 w ↦
          unescape_newline i.text i.left.now c.in-Some.run' found.0.high found.0.before (unescape c.args.bytes.now) w.if-left-run-eq10.true i.invariant
      | then-left-run-eq10-via-else-left-run-eq10+then-left-run-eq1 w ↦
          unescape_last i.text i.left.now c.in-Some.run' found.0.high found.0.before (unescape c.args.bytes.now) (is_backslash _ found.1 w.if-left-run-eq10.false) (omega (arith, found.0.high)) i.invariant
    ]

pub loop-run-preserved : goal.loop-run-preserved
loop-run-preserved c =
    let found = c.in-Some.ensures in
    let i = c.loop-run in
    let more : c.in-Some.run' + 1 < length i.left.now = omega (arith, found.0.high, c.if-left-run-eq1.false) in
    let next = unescape_on i.text i.left.now c.in-Some.run' found.0.high found.0.before (unescape c.args.bytes.now) (is_backslash _ found.1 c.if-left-run-eq10.false) more i.invariant in
    rw (c.in_ok-push.ensures.ok, c.in_ok-extend.ensures.ok) next

pub returns : goal.returns
returns c =
    let last = unescape_plain c.loop-run.left.now c.in_default.ensures in
    rw c.in_ok-extend-2.ensures.ok (sym (ap (put_front c.loop-run.text) last) ∙ c.loop-run.invariant)
