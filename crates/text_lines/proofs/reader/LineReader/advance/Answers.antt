use Rattle.std.proofs.Common.{◌+◌, sym, ◌∙◌, drop, length}
use Rattle.directory_input.specs.Windows.{window_bytes}
use Rattle.text_lines.proofs.Ahead.{rest_after}
use Rattle.text_lines.proofs.reader.LineReader.advance.Goals as goal

pub returns-clause-steps : goal.returns-clause-steps
returns-clause-steps g c = λ t.
    let B = g.B.FileBytes in
    let later = c.in-Ok-true.ensures.cause.files in
    let fits = c.in-Ok-true.ensures.fits in
    let r = c.more.new.self in
    let text = window_bytes (B.view c.args.bytes.now).bytes r.input in
    let le = rw c.unread.ensures.bytes at c.in_ok-step.ensures.inside in
    let ahead = rw (later.bytes) at (fits.ahead (later.tells ∙ t)) in
    let lands = rw c.unread.ensures.bytes at (c.in_ok-step.ensures.lands (drop (r.input.position + length r.ahead) text)) in
    let after = rest_after r.input.position c.in_ok-step.step.used r.ahead text le ahead in
    rw (sym c.in-Ok-true.ensures.input, c.pass.ensures.left, sym ahead, sym after) lands
