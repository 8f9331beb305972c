use Rattle.std.proofs.Common.{◌≡◌, ◌≤◌, ◌-◌, ℕ, List, length}
use Rattle.cache_policy.specs.Policy.{settle_all}
use Rattle.cache_table.specs.Rule.{Governs}
use Rattle.cache_table.specs.Calls.{InCache}
use Rattle.cache_table.proofs.cache.SharedCache.settle_unheld.Given as goal

abbrev pub invariant-loop-at : goal.invariant-loop-at
invariant-loop-at g l = (l.at ≤ length l.policy.leaving) × (l.seat.table_id ≡ l.initial.seat.table_id) × (l.seat.id ≡ l.initial.seat.id) × InCache l.self.about l._cache l.seat.me
    × (l.seat.me.0 ≡ record l.initial.seat.me.0 { looks = l.seat.me.0.looks; loaded = l.seat.me.0.loaded; found_held = l.seat.me.0.found_held })
    × Governs l.self.about l.policy × ((rs : List ℕ) × (l.policy ≡ settle_all rs l.initial.policy))

abbrev pub decreases-loop-at : goal.decreases-loop-at
decreases-loop-at g l = length l.policy.leaving - l.at
