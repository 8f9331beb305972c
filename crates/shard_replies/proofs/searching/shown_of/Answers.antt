use Rattle.std.proofs.Common.{rules}
use Rattle.shard_replies.proofs.Showing.{segment_there, shown_next}
use Rattle.shard_replies.proofs.searching.shown_of.Goals as goal

pub segment-segment-requires : goal.segment-segment-requires
segment-segment-requires c = segment_there c.args.shard.now.segments c.args.hits.now c.loop-i.i c.get-hit.result.now c.requires c.get-hit.ensures

pub loop-i-preserved : goal.loop-i-preserved
loop-i-preserved c =
    shown_next c.args.shard.now.segments c.args.hits.now c.loop-i.i c.get-hit.result.now c.segment-segment.result.now c.loop-i.list c.push.new.self c.in_ok-clone.field-0
    c.get-hit.ensures c.segment-segment.ensures.value (search rules) c.loop-i.invariant c.in_ok-push.ensures.ok
