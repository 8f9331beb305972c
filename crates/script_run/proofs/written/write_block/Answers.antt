use Rattle.std.proofs.Common.{◌<◌, length, arith, rules}
use Rattle.script_run.proofs.Behind.{block_written, block_front, err_of}
use Rattle.script_run.proofs.written.write_block.Goals as goal

pub returns-in_err-write_line-clause-front : goal.returns-in_err-write_line-clause-front
returns-in_err-write_line-clause-front g c =
    let within : c.loop-i.i < length c.args.block.now = c.loop-i-test.true in
    let also : c.loop-i.i < length c.args.replies.now = omega (arith, c.requires) in
    err_of _ c.from_residual.result (block_front _ _ _ c.loop-i.i c.args.block.now c.args.replies.now c.index-block-i.result c.index-replies-i.result c.index-block-i.is c.index-replies-i.is within also
    c.loop-i.invariant.written c.in_err-write_line.ensures.front)

pub loop-i-preserved : goal.loop-i-preserved
loop-i-preserved g c =
    let within : c.loop-i.i < length c.args.block.now = c.loop-i-test.true in
    let also : c.loop-i.i < length c.args.replies.now = omega (arith, c.requires) in
    record {
      later = search rules;
      written = block_written _ _ _ c.loop-i.i c.args.block.now c.args.replies.now c.index-block-i.result c.index-replies-i.result c.index-block-i.is c.index-replies-i.is within also
          c.loop-i.invariant.written c.in_ok-write_line.ensures.whole;
    }
