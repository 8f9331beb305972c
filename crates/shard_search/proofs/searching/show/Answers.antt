use Rattle.shard_search.proofs.HitLemmas.{show_more}
use Rattle.std.proofs.Common.{◌<◌, arith, length}
use Rattle.shard_search.proofs.searching.show.Goals as goal

pub loop-doc-preserved : goal.loop-doc-preserved
loop-doc-preserved c =
    let less : length c.loop-doc.list < c.args.size = omega (arith, c.len.ensures, c.if-len-size.false) in
    let more = show_more c.args.segment c.args.size c.in-Some.doc c.loop-doc.list c.push.new.self c.loop-doc.doc-iterator c.next.new.self _ less c.in_ok-push.ensures.ok c.in-Some.ensures.steps c.loop-doc.invariant.shown in
    record { few = more.0; shown = more.1 }
