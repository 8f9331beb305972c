use Rattle.std.proofs.Common.{◌∙◌}
use Rattle.shard_maker.proofs.Pieces.{three}
use Rattle.shard_maker.proofs.script.push_term.Goals as goal

pub returns : goal.returns
returns c = three _ _ _ _ _ _ _ _ c.in_ok-extend.ensures.ok c.in_ok-extend-2.ensures.ok (c.as_bytes-2.ensures ∙ c.in_ok-term_name.ensures) c.in_ok-extend-3.ensures.ok
