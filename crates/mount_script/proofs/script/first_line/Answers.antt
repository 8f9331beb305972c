use Rattle.std.proofs.Common.{◌+◌, length, add-one}
use Rattle.mount_script.proofs.Lines.{line_at, behind, whole}
use Rattle.mount_script.proofs.script.first_line.Goals as goal

pub returns-in-Some-clause-lines : goal.returns-in-Some-clause-lines
returns-in-Some-clause-lines c =
    let found = c.in-Some.ensures in
    rw (behind c.args.text.now (c.in-Some.end + 1), add-one) (line_at c.args.text.now c.in-Some.end found.0.high found.0.before found.1)

pub returns-in-None-clause-lines : goal.returns-in-None-clause-lines
returns-in-None-clause-lines c = rw (behind c.args.text.now (length c.args.text.now)) (whole c.args.text.now c.requires c.in-None.ensures)
