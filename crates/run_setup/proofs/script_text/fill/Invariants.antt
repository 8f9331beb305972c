use Rattle.std.proofs.Common.{◌≡◌, ◌≤◌, ◌-◌, length}
use Rattle.run_setup.specs.Texts.{Filled, most_read}
use Rattle.run_setup.proofs.script_text.fill.Given as goal

abbrev pub invariant-loop-count : goal.invariant-loop-count
invariant-loop-count g l =
    (l.count ≤ most_read)
    × (length l.buffer ≡ most_read)
    × Filled l.count (g.T.TextSource.view l.fn.source).left (g.T.TextSource.view l.source).left l.buffer
    × ((g.T.TextSource.view l.fn.source).faults ≤ (g.T.TextSource.view l.source).faults)

abbrev pub decreases-loop-count : goal.decreases-loop-count
decreases-loop-count g l = most_read - l.count
