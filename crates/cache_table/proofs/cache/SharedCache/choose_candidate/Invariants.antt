-- the candidates before this one were found held
use Rattle.std.proofs.Common.{◌≡◌, ℕ, length, take, None}
use Rattle.std.specs.Prelude.{slice_get, IfSome, IsSome}
use Rattle.cache_policy.specs.Policy.{tag_at}
use Rattle.cache_policy.specs.Ageing.{candidates}
use Rattle.cache_door.specs.Choices.{left_from}
use Rattle.cache_table.specs.Calls.{InCache, FoundAll}
use Rattle.cache_table.specs.Entries.{Scanned}
use Rattle.cache_table.proofs.cache.SharedCache.choose_candidate.Given as goal

abbrev pub invariant-loop-next : goal.invariant-loop-next
invariant-loop-next g l = (l.seat.table_id ≡ l.initial.seat.table_id) × (l.seat.id ≡ l.initial.seat.id) × InCache l.self.about l._cache l.seat.me × Scanned l.self.about l.initial.seat.me.0 l.seat.me.0 × (l.seat.me.0.hold ≡ None)
    × ((i : ℕ) × (l.next ≡ slice_get (candidates l.policy) i) × FoundAll (take i (candidates l.policy)) l.seat.me.0.found_held) × IfSome l.next (λ r. IsSome (tag_at l.policy r))

abbrev pub decreases-loop-next : goal.decreases-loop-next
decreases-loop-next g l = length (left_from l.next (candidates l.policy))
