use Rattle.std.proofs.Common.{◌≡◌, ◌*◌}
use Rattle.shard_maker.specs.Draws.{state}
use Rattle.shard_maker.specs.Searches.{script_bytes}
use Rattle.shard_maker.proofs.script.made_script.Given as goal

abbrev pub invariant-loop-i : goal.invariant-loop-i
invariant-loop-i l = (l.draws.state ≡ state l.fn.draws.state (2 * l.i)) × (l.text ≡ script_bytes l.fn.draws.state l.terms l.i)
