use Rattle.std.proofs.Common.{◌<◌, ◌∙◌, length, arith}
use Rattle.script_run.proofs.Blocks.{forgotten_more}
use Rattle.script_run.proofs.block.forget.Goals as goal

pub loop-i-preserved : goal.loop-i-preserved
loop-i-preserved g c =
    let within : c.loop-i.i < length c.args.block.now = c.loop-i-test.true in
    let also : c.loop-i.i < length c.args.replies.now = omega (arith, c.requires) in
    record {
      mounts = λ other. forgotten_more c.loop-i.i c.args.block.now c.args.replies.now c.index-block-i.result c.index-replies-i.result other c.index-block-i.is c.index-replies-i.is within also
          c.args.roster.now c.loop-i.roster c.forget_line.new.roster (c.loop-i.invariant.mounts other) (c.forget_line.ensures.mounts other);
      made = c.forget_line.ensures.made ∙ c.loop-i.invariant.made;
    }
