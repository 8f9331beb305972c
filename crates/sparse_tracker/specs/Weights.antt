-- What tickets and gaps weigh: lists that weigh the same under every f hold the same, each as often.
use Rattle.std.specs.Prelude.{◌≡◌, ◌<◌, ◌+◌, ◌==◌, ℕ, List, [], ◌∷◌, Some, cond, if◌then◌else◌}
use Rattle.region_ranges.specs.declared.ranges.ByteRange.{ByteRange}
use Rattle.sparse_tracker.specs.declared.gaps.OpenGap.{OpenGap}
use Rattle.sparse_tracker.specs.declared.tickets.Ticket.{Ticket}
use Rattle.sparse_tracker.specs.ByteStates.{Tracker, new_ticket, with_ticket, open_gap, least_unused, ids, gap_of, ticket_of, progress, fail, leave}
use Rattle.sparse_tracker.specs.Kept.{IsGood}

abbrev pub total : {X : Type 0} → (X → ℕ) → List X → ℕ
total f [] = 0
total f (x ∷ xs) = f x + total f xs

-- by number, start and end
abbrev pub by_ticket : (ℕ → ℕ → ℕ → ℕ) → Ticket → ℕ
by_ticket f k = f k.number k.start k.end

-- by id, present end and end
abbrev pub by_gap : (ℕ → ℕ → ℕ → ℕ) → OpenGap → ℕ
by_gap f o = f o.id o.upto o.end

-- what the tickets and the gaps of a tracker weigh
abbrev pub tickets_weigh : (ℕ → ℕ → ℕ → ℕ) → Tracker → ℕ
tickets_weigh f t = total (by_ticket f) t.tickets

abbrev pub gaps_weigh : (ℕ → ℕ → ℕ → ℕ) → Tracker → ℕ
gaps_weigh f t = total (by_gap f) t.gaps

-- 1 at these three numbers, and else 0
abbrev pub one_at : ℕ → ℕ → ℕ → ℕ → ℕ → ℕ → ℕ
one_at a b c x y z = cond (x == a) (cond (y == b) (cond (z == c) 1 0) 0) 0

-- 1 everywhere
abbrev pub one_each : ℕ → ℕ → ℕ → ℕ
one_each _ _ _ = 1

pub record TicketWeights : Type 0 where
  pub added : (f : ℕ → ℕ → ℕ → ℕ) (sub : ByteRange) (t : Tracker) → tickets_weigh f (with_ticket sub t) ≡ tickets_weigh f t + by_ticket f (new_ticket sub t)
  pub left : (f : ℕ → ℕ → ℕ → ℕ) (n : ℕ) (k : Ticket) (t : Tracker) → ticket_of n t ≡ Some k → tickets_weigh f t ≡ by_ticket f k + tickets_weigh f (leave n t)
  pub failed : (f : ℕ → ℕ → ℕ → ℕ) (g : ℕ) (t : Tracker) → tickets_weigh f (fail g t) ≡ tickets_weigh f t
  -- a ticket that weighs something is there under its number, and where nothing weighs there is none
  pub found : (n start end : ℕ) (t : Tracker) → IsGood t → 0 < tickets_weigh (one_at n start end) t → (k : Ticket) × (ticket_of n t ≡ Some k) × (k.number ≡ n) × (k.start ≡ start) × (k.end ≡ end)
  pub none : (t : Tracker) → tickets_weigh one_each t ≡ 0 → t.tickets ≡ []

pub record GapWeights : Type 0 where
  pub opened : (f : ℕ → ℕ → ℕ → ℕ) (run : ByteRange) (t : Tracker) → gaps_weigh f (open_gap run t) ≡ gaps_weigh f t + f (least_unused (ids t.gaps)) run.start run.end
  pub moved : (f : ℕ → ℕ → ℕ → ℕ) (g to : ℕ) (o : OpenGap) (t : Tracker) → gap_of g t ≡ Some o → gaps_weigh f (progress g to t) + by_gap f o ≡ gaps_weigh f t + (if to == o.end then 0 else f o.id to o.end)
  pub failed : (f : ℕ → ℕ → ℕ → ℕ) (g : ℕ) (o : OpenGap) (t : Tracker) → gap_of g t ≡ Some o → gaps_weigh f t ≡ by_gap f o + gaps_weigh f (fail g t)
  -- a gap that weighs something is there under its id, and where nothing weighs there is none
  pub found : (g upto end : ℕ) (t : Tracker) → IsGood t → 0 < gaps_weigh (one_at g upto end) t → gap_of g t ≡ Some (record { id = g; upto = upto; end = end })
  pub none : (t : Tracker) → gaps_weigh one_each t ≡ 0 → t.gaps ≡ []
