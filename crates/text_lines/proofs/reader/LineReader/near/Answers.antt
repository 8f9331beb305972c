use Rattle.std.proofs.Common.{arith}
use Rattle.std.proofs.lemmas.Option.{IfSome_then}
use Rattle.text_lines.proofs.Ahead.{lends_line}
use Rattle.text_lines.proofs.reader.LineReader.near.Goals as goal

pub returns-clause-inside : goal.returns-clause-inside
returns-clause-inside c = IfSome_then c.near_content.result c.near_content.ensures (λ content near. rw c.unread.ensures.bytes at near.inside)

pub returns-clause-place : goal.returns-clause-place
returns-clause-place c =
    IfSome_then c.near_content.result (returns-clause-inside c) (λ content inside. omega (arith, inside, c.unread.ensures.place))

pub returns-clause-line : goal.returns-clause-line
returns-clause-line c = λ files fits.
    IfSome_then c.near_content.result c.near_content.ensures (λ content near. lends_line files c.args.self.now content.now fits (rw c.unread.ensures.bytes at near))
