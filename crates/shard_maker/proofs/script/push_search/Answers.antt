use Rattle.std.proofs.Common.{refl}
use Rattle.shard_maker.proofs.Pieces.{three}
use Rattle.shard_maker.proofs.script.push_search.Goals as goal

pub returns : goal.returns
returns c = three _ _ _ _ _ _ _ _ c.in_ok-extend.ensures.ok c.in_ok-push_query.ensures refl c.in_ok-push.ensures.ok
