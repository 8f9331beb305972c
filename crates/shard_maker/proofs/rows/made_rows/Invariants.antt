use Rattle.std.proofs.Common.{◌≡◌}
use Rattle.shard_maker.specs.Draws.{state}
use Rattle.shard_maker.specs.MadeRows.{rows_below}
use Rattle.shard_maker.proofs.rows.made_rows.Given as goal

abbrev pub invariant-loop-n : goal.invariant-loop-n
invariant-loop-n l =
    (l.draws.state ≡ state l.fn.draws.state l.n) × (l.rows.docs ≡ l.docs) × (l.rows.rows ≡ rows_below l.fn.draws.state l.docs l.n)
