-- the leaving regions before this one were found held
use Rattle.std.proofs.Common.{◌≡◌, take, None}
use Rattle.cache_table.specs.Calls.{InCache, FoundAll}
use Rattle.cache_table.specs.Entries.{Scanned}
use Rattle.cache_table.proofs.cache.SharedCache.choose_leaving.Given as goal

abbrev pub invariant-loop-at : goal.invariant-loop-at
invariant-loop-at g l = (l.seat.table_id ≡ l.initial.seat.table_id) × (l.seat.id ≡ l.initial.seat.id) × InCache l.self.about l._cache l.seat.me × Scanned l.self.about l.initial.seat.me.0 l.seat.me.0 × (l.seat.me.0.hold ≡ None) × FoundAll (take l.at l.policy.leaving) l.seat.me.0.found_held
