-- the free regions before this one were found held, and are leaving
use Rattle.std.proofs.Common.{◌≡◌, ℕ, length, take, None}
use Rattle.cache_table.specs.Rule.{Governs}
use Rattle.cache_table.specs.Calls.{InCache, FoundAll, PassedOver}
use Rattle.cache_table.specs.Entries.{Scanned}
use Rattle.cache_table.proofs.cache.SharedCache.choose_free.Given as goal

abbrev pub invariant-loop-region : goal.invariant-loop-region
invariant-loop-region g l = (l.seat.table_id ≡ l.initial.seat.table_id) × (l.seat.id ≡ l.initial.seat.id) × InCache l.self.about l._cache l.seat.me × Scanned l.self.about l.initial.seat.me.0 l.seat.me.0 × (l.seat.me.0.hold ≡ None)
    × Governs l.self.about l.policy × ((n : ℕ) × PassedOver n l.initial.policy l.policy × FoundAll (take n l.initial.policy.free) l.seat.me.0.found_held)

abbrev pub decreases-loop-region : goal.decreases-loop-region
decreases-loop-region g l = length l.policy.free
