use Rattle.std.proofs.Common.{◌≤◌, ℕ, None}
use Rattle.std.specs.Prelude.{slice_set}
use Rattle.key_table.specs.Slots.{steps}
use Rattle.key_table.proofs.Gaps.{IsClosing}
use Rattle.key_table.proofs.gap.take_out.Given as goal

abbrev pub invariant-loop-passed : goal.invariant-loop-passed
invariant-loop-passed l = (f : ℕ) × IsClosing l.size (slice_set l.fn.slots.items l.place None) l.slots.items f l.gap l.at × (l._passed ≤ steps l.size f l.at)
