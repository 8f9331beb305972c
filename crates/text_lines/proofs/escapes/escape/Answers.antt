use Rattle.std.proofs.Common.{sym}
use Rattle.text_lines.specs.Escapes.{escape}
use Rattle.text_lines.proofs.Undone.{escape_on, escape_plain}
use Rattle.text_lines.proofs.escapes.escape.Goals as goal

pub loop-run-preserved : goal.loop-run-preserved
loop-run-preserved c =
    let found = c.in-Some.ensures in
    let next = escape_on c.loop-run.text c.loop-run.left.now c.in-Some.run' found.0.high found.0.before (escape c.args.bytes.now) found.1 c.loop-run.invariant in
    rw (c.in_ok-push-2.ensures.ok, c.in_ok-push.ensures.ok, c.in_ok-extend.ensures.ok) next

pub returns : goal.returns
returns c = rw (c.in_ok-extend-2.ensures.ok, sym (escape_plain c.loop-run.left.now c.in_default.ensures)) c.loop-run.invariant
