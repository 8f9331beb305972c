-- the mounts below this one are united
use Rattle.std.proofs.Common.{◌≡◌, ℕ, false, slice_index_or}
use Rattle.std.specs.Prelude.{◌||◌, nat_lt, if◌then◌else◌}
use Rattle.cache_table.proofs.mount_set.MountSet.unite.Given as goal

abbrev pub invariant-loop-at : goal.invariant-loop-at
invariant-loop-at l = (m : ℕ) → slice_index_or l.self-inside.bits m false ≡ (if nat_lt m l.at then slice_index_or l.fn.self m false || slice_index_or l.other m false else slice_index_or l.fn.self m false)
