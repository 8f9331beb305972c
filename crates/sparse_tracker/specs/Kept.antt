-- What is true of every tracker, and the code's ranges as states.
use Rattle.std.specs.Prelude.{◌≡◌, ◌<◌, ◌≤◌, ◌+◌, ◌-◌, ◌*◌, not, ◌&&◌, ◌||◌, ◌==◌, ℕ, Bool, true, false, nat_lt, nat_le, List, [], ◌∷◌, length, map, slice_get, Some, if◌then◌else◌}
use Rattle.std.specs.List.{range_with_len, list_any}
use Rattle.region_ranges.specs.declared.ranges.ByteRange.{ByteRange}
use Rattle.region_ranges.specs.Ranges.{has}
use Rattle.sparse_tracker.specs.ByteStates.{ByteState, absent, pending, present, Tracker, TrackerView, ids, numbers}
use Rattle.sparse_tracker.specs.declared.gaps.OpenGap.{OpenGap}
use Rattle.sparse_tracker.specs.declared.tickets.Ticket.{Ticket}

-- ---- what every caller may rely on

-- gaps are not empty, no two hold the same place, and the states from a gap's present end to its end, and no others, are pending under it
pub record GapsFit (t : Tracker) : Type 0 where
  pub bounds : (j : ℕ) (g : OpenGap) → slice_get t.gaps j ≡ Some g → (g.upto < g.end) × (g.end ≤ length t.byte_states)
  pub apart : (j k i : ℕ) (g h : OpenGap) → slice_get t.gaps j ≡ Some g → slice_get t.gaps k ≡ Some h → g.upto ≤ i → i < g.end → h.upto ≤ i → i < h.end → j ≡ k
  pub byte_states : (j : ℕ) (g : OpenGap) (i : ℕ) → slice_get t.gaps j ≡ Some g → g.upto ≤ i → i < g.end → slice_get t.byte_states i ≡ Some (pending g.id)
  pub owned : (i h : ℕ) → slice_get t.byte_states i ≡ Some (pending h) → (j : ℕ) × (g : OpenGap) × (slice_get t.gaps j ≡ Some g) × (g.id ≡ h) × (g.upto ≤ i) × (i < g.end)

-- besides, ids differ, numbers of tickets differ, and each ticket waits for at least one byte of the tracker
pub record IsGood (t : Tracker) : Type 0 where
  pub gaps : GapsFit t
  pub ids : (j k : ℕ) (g h : OpenGap) → slice_get t.gaps j ≡ Some g → slice_get t.gaps k ≡ Some h → g.id ≡ h.id → j ≡ k
  pub numbers : (j k : ℕ) (m n : Ticket) → slice_get t.tickets j ≡ Some m → slice_get t.tickets k ≡ Some n → m.number ≡ n.number → j ≡ k
  pub tickets : (j : ℕ) (k : Ticket) → slice_get t.tickets j ≡ Some k → (k.start < k.end) × (k.end ≤ length t.byte_states)

-- besides, it is never longer than it was made
pub record IsKept (v : TrackerView) : Type 0 where
  pub tracker : IsGood v.tracker
  pub len : length v.tracker.byte_states ≤ v.first_len
  pub most : v.first_len < 4294967296

-- ---- the code's ranges and gaps, as states

abbrev pub in_gap : OpenGap → ℕ → Bool
in_gap g i = nat_le g.upto i && nat_lt i g.end

abbrev pub in_any : List OpenGap → ℕ → Bool
in_any [] i = false
in_any (g ∷ gs) i = in_gap g i || in_any gs i

-- whether a place of the range is in the gap
abbrev pub meets : ByteRange → OpenGap → Bool
meets sub g = nat_lt g.upto sub.end && nat_lt sub.start g.end

-- whether a place of the range is not taken
abbrev pub any_free : List ByteRange → ByteRange → Bool
any_free taken sub = list_any (λ i. not (has taken i)) (range_with_len sub.start (sub.end - sub.start))

-- a ticket whose sub-range the gap meets is marked
abbrev pub mark : OpenGap → Ticket → Ticket
mark g k = record k { failed = k.failed || meets (record { start = k.start; end = k.end }) g }

-- the state of a place: pending under an open gap, else present where it was ever claimed and not failed
abbrev pub byte_state_at : List ByteRange → List OpenGap → ℕ → ByteState
byte_state_at taken [] i = if has taken i then present else absent
byte_state_at taken (g ∷ gs) i = if in_gap g i then pending g.id else byte_state_at taken gs i

abbrev pub byte_states_of : ℕ → List ByteRange → List OpenGap → List ByteState
byte_states_of len taken gaps = map (byte_state_at taken gaps) (range_with_len 0 len)

-- the pending places of each gap are taken, and inside the tracker
abbrev pub AllTaken : ℕ → List ByteRange → List OpenGap → Type 0
AllTaken len taken [] = Unit {0}
AllTaken len taken (g ∷ gs) = (g.upto < g.end) × (g.end ≤ len) × ((i : ℕ) → in_gap g i ≡ true → has taken i ≡ true) × AllTaken len taken gs

-- no place is in two gaps
abbrev pub AllApart : List OpenGap → Type 0
AllApart [] = Unit {0}
AllApart (g ∷ gs) = ((i : ℕ) → in_gap g i ≡ true → in_any gs i ≡ false) × AllApart gs

abbrev pub AllDiffer : List ℕ → Type 0
AllDiffer [] = Unit {0}
AllDiffer (n ∷ ns) = (list_any (λ m. m == n) ns ≡ false) × AllDiffer ns

-- how many of the numbers are below the limit
abbrev pub count_below : ℕ → List ℕ → ℕ
count_below limit [] = 0
count_below limit (n ∷ ns) = (if nat_lt n limit then 1 else 0) + count_below limit ns

abbrev pub AllInside : ℕ → List Ticket → Type 0
AllInside len [] = Unit {0}
AllInside len (k ∷ ks) = (k.start < k.end) × (k.end ≤ len) × AllInside len ks

-- what the type keeps of its places, gaps and tickets
pub record IsStored (first_len count : ℕ) (taken : List ByteRange) (open_gaps : List OpenGap) (waiting : List Ticket) : Type 0 where
  pub len : count ≤ first_len
  pub most : first_len < 4294967296
  pub past : (i : ℕ) → count ≤ i → has taken i ≡ false
  pub gaps : AllTaken count taken open_gaps
  pub apart : AllApart open_gaps
  pub ids : AllDiffer (ids open_gaps)
  pub tickets : AllInside count waiting
  pub numbers : AllDiffer (numbers waiting)

-- and of its room: a change of the places for the failure of each open gap, and two for each claim that is kept ahead
pub record HasRoom (gap_count ticket_count spare places gap_room ticket_room : ℕ) : Type 0 where
  pub changes : gap_count + 2 * spare ≤ places
  pub gaps : gap_count + spare ≤ gap_room
  pub tickets : ticket_count + spare ≤ ticket_room
  pub ids : gap_count + spare ≤ 4294967295
  pub numbers : ticket_count + spare ≤ 4294967295
