use Rattle.std.proofs.Common.{◌≡◌, ◌≤◌, length, take}
use Rattle.shared_run.specs.Shares.{share}
use Rattle.shared_run.proofs.lines.share_len.Given as goal

abbrev pub invariant-loop-k : goal.invariant-loop-k
invariant-loop-k l = (l.count ≡ length (share l.workers l.worker 0 (take l.k l.block))) × (l.count ≤ l.k)
