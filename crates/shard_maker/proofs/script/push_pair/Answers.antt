use Rattle.shard_maker.proofs.Pieces.{five}
use Rattle.shard_maker.proofs.script.push_pair.Goals as goal

pub returns : goal.returns
returns c = five _ _ _ _ _ _ _ _ _ _ _ c.in_ok-extend.ensures.ok c.in_ok-push_term.ensures c.in_ok-extend-2.ensures.ok c.in_ok-push_term-2.ensures c.in_ok-extend-3.ensures.ok
