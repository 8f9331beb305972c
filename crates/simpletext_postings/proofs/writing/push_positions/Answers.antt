use Rattle.std.proofs.Common.{refl}
use Rattle.std.specs.List.{flat_map}
use Rattle.simpletext_postings.specs.Written.{position_line}
use Rattle.simpletext_postings.proofs.Stepped.{one_more}
use Rattle.simpletext_postings.proofs.writing.push_positions.Goals as goal

pub loop-i-preserved : goal.loop-i-preserved
loop-i-preserved c =
    let position = c.get.result.now in
    one_more (flat_map position_line) (flat_map position_line) (position_line position) c.args.positions.now c.loop-i.i position c.loop-i.text c.push_position.new.text _
    (λ ys. refl) c.get.ensures c.loop-i.invariant c.in_ok-push_position.ensures
