use Rattle.std.proofs.Common.{[], sym, refl}
use Rattle.simpletext_postings.specs.Forms.{End}
use Rattle.simpletext_postings.proofs.Opened.{takes_nothing, takes_end}
use Rattle.simpletext_postings.proofs.opening.Opening.take_end.Goals as goal

pub returns-then-not-take-clause-takes : goal.returns-then-not-take-clause-takes
returns-then-not-take-clause-takes c past of =
    let moves = c.if-not-take.ensures past [] of.state in
    takes_nothing c.args.self.now.docs past End c.args.at c.args.behind c.args.self.now _ refl (sym moves.same)

pub returns-clause-takes : goal.returns-clause-takes
returns-clause-takes c past of =
    let moves = c.if-not-take.ensures past [] of.state in
    takes_end c.args.self.now.docs past c.args.at c.args.behind c.args.self.now (record c.args.self.now { state = c.take.new.self }) c.close.new.self c.take.new.self of moves refl refl refl refl c.in_ok-close.ensures.closes
