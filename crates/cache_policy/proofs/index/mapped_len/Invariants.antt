use Rattle.std.proofs.Common.{◌≡◌, ◌≤◌, length, take}
use Rattle.std.specs.Prelude.{filter, is_some}
use Rattle.cache_policy.proofs.index.mapped_len.Given as goal

abbrev pub invariant-loop-entry : goal.invariant-loop-entry
invariant-loop-entry l = (l.mapped ≤ l.entry-index) × (l.mapped ≡ length (filter is_some (take l.entry-index l.tags)))
