-- A tracker: a state for each byte, the open gaps, and the tickets. Each call is an equation on these lists.
use Rattle.std.specs.Prelude.{◌+◌, ◌&&◌, ◌||◌, ◌==◌, ℕ, zero, suc, Bool, true, false, not, nat_lt, List, [], ◌∷◌, ◌++◌, length, take, map, find, replicate, slice_range, Option, Some, None, option_map, if◌then◌else◌}
use Rattle.std.specs.List.{list_all, list_any}
use Rattle.region_ranges.specs.declared.ranges.ByteRange.{ByteRange}
use Rattle.region_ranges.specs.Ranges.{inside, first_run}
use Rattle.sparse_tracker.specs.declared.gaps.OpenGap.{OpenGap}
use Rattle.sparse_tracker.specs.declared.tickets.Ticket.{Ticket}
use Rattle.sparse_tracker.specs.declared.status.Claim.{Claim}
use Rattle.sparse_tracker.specs.declared.status.Status.{Status}
use Rattle.sparse_tracker.specs.declared.status.Status.TheVariants.{Ready, Waiting, Failed, Open}

-- what is known of a byte: nobody fetches it, the owner of that gap does, or it is there
pub data ByteState : Type 0 where
  absent : ByteState
  pending : ℕ → ByteState
  present : ByteState

pub record Tracker : Type 0 where
  pub byte_states : List ByteState
  pub gaps : List OpenGap
  pub tickets : List Ticket

-- what contracts see: the tracker, the length that it was made with, and the claims for which there is room
pub record TrackerView : Type 0 where
  pub tracker : Tracker
  pub first_len : ℕ
  pub spare : ℕ

abbrev pub is_absent : ByteState → Bool
is_absent absent = true
is_absent _ = false

abbrev pub is_present : ByteState → Bool
is_present present = true
is_present _ = false

-- pending under the gap of that id
abbrev pub is_under : ℕ → ByteState → Bool
is_under g (pending h) = h == g
is_under g _ = false

-- each state, by its place, is changed by f
abbrev pub change_from : ℕ → (ℕ → ByteState → ByteState) → List ByteState → List ByteState
change_from i f [] = []
change_from i f (l ∷ ls) = f i l ∷ change_from (i + 1) f ls

abbrev pub change : (ℕ → ByteState → ByteState) → List ByteState → List ByteState
change f ls = change_from 0 f ls

abbrev pub byte_states_in : ℕ → ℕ → List ByteState → List ByteState
byte_states_in start end ls = slice_range ls start end

-- the greatest run of absent states in the range that holds the first absent state of it at or after `from`
abbrev pub absent_run : List ByteState → ByteRange → ℕ → Option ByteRange
absent_run ls range from = first_run (map is_absent (take range.end ls)) range.start from

-- the least number that is not in the list
abbrev pub least_from : ℕ → ℕ → List ℕ → ℕ
least_from zero n used = n
least_from (suc k) n used = if list_any (λ m. m == n) used then least_from k (n + 1) used else n

abbrev pub least_unused : List ℕ → ℕ
least_unused used = least_from (length used) 0 used

abbrev pub ids : List OpenGap → List ℕ
ids gaps = map (λ g. g.id) gaps

abbrev pub numbers : List Ticket → List ℕ
numbers tickets = map (λ t. t.number) tickets

-- the open gap of that id, and the ticket of that number
abbrev pub gap_of : ℕ → Tracker → Option OpenGap
gap_of g t = find (λ o. o.id == g) t.gaps

abbrev pub ticket_of : ℕ → Tracker → Option Ticket
ticket_of n t = find (λ k. k.number == n) t.tickets

-- ---- a new tracker, and claims

abbrev pub new_tracker : ℕ → Tracker
new_tracker len = record { byte_states = replicate len absent; gaps = []; tickets = [] }

abbrev pub new_ticket : ByteRange → Tracker → Ticket
new_ticket sub t = record { number = least_unused (numbers t.tickets); start = sub.start; end = sub.end; failed = false }

abbrev pub with_ticket : ByteRange → Tracker → Tracker
with_ticket sub t = record t { tickets = t.tickets ++ new_ticket sub t ∷ [] }

abbrev pub open_gap : ByteRange → Tracker → Tracker
open_gap run t = let g = least_unused (ids t.gaps) in
    record t { byte_states = change (λ i l. if inside run i then pending g else l) t.byte_states; gaps = t.gaps ++ record { id = g; upto = run.start; end = run.end } ∷ [] }

abbrev pub open_gap_at : Option ByteRange → Tracker → Tracker
open_gap_at None t = t
open_gap_at (Some run) t = open_gap run t

-- the first run at or after the start of `sub`, where it does not begin behind `sub`
abbrev pub not_behind : ByteRange → Option ByteRange → Option ByteRange
not_behind sub None = None
not_behind sub (Some run) = if nat_lt run.start sub.end then Some run else None

-- the run that a claim takes: by places it is told in `Places.antt`
abbrev pub claimed_run : ByteRange → ByteRange → Tracker → Option ByteRange
claimed_run range sub t = not_behind sub (absent_run t.byte_states range sub.start)

abbrev pub wait_for_range : ByteRange → ByteRange → Tracker → Tracker
wait_for_range range sub t = with_ticket sub (open_gap_at (claimed_run range sub t) t)

-- what a claim answers: the new gap or none, and the number of the new ticket
abbrev pub new_claim : ByteRange → ByteRange → Tracker → Claim
new_claim range sub t = record { gap = option_map (λ (run : ByteRange). record { id = least_unused (ids t.gaps); range = run }) (claimed_run range sub t); ticket = least_unused (numbers t.tickets) }

-- whether a byte of `sub` is absent
abbrev pub lacks : ByteRange → Tracker → Bool
lacks sub t = list_any is_absent (byte_states_in sub.start sub.end t.byte_states)

-- whether all bytes of `sub` are present
abbrev pub has_all : ByteRange → Tracker → Bool
has_all sub t = list_all is_present (byte_states_in sub.start sub.end t.byte_states)

abbrev pub wait_if_pending : ByteRange → Tracker → Tracker
wait_if_pending sub t = if lacks sub t then t else with_ticket sub t

abbrev pub pending_ticket : ByteRange → Tracker → Option ℕ
pending_ticket sub t = if lacks sub t then None else Some (least_unused (numbers t.tickets))

-- ---- progress and failure of a gap

-- the gap's present end is moved, and a gap whose end is reached is closed
abbrev pub move_gap : ℕ → ℕ → List OpenGap → List OpenGap
move_gap g to [] = []
move_gap g to (o ∷ os) = if o.id == g then (if to == o.end then os else record o { upto = to } ∷ os) else o ∷ move_gap g to os

-- pending states of the gap below `to` become present
abbrev pub progress : ℕ → ℕ → Tracker → Tracker
progress g to t = record t { byte_states = change (λ i l. if is_under g l && nat_lt i to then present else l) t.byte_states; gaps = move_gap g to t.gaps }

abbrev pub complete_at : Option OpenGap → Tracker → Tracker
complete_at None t = t
complete_at (Some o) t = progress o.id o.end t

-- progress to the gap's end
abbrev pub complete : ℕ → Tracker → Tracker
complete g t = complete_at (gap_of g t) t

abbrev pub without_gap : ℕ → List OpenGap → List OpenGap
without_gap g [] = []
without_gap g (o ∷ os) = if o.id == g then os else o ∷ without_gap g os

-- a ticket whose sub-range holds a state pending under the gap is marked
abbrev pub fail_ticket : ℕ → List ByteState → Ticket → Ticket
fail_ticket g ls k = record k { failed = k.failed || list_any (is_under g) (byte_states_in k.start k.end ls) }

-- the gap's pending states become absent, and the gap is closed
abbrev pub fail : ℕ → Tracker → Tracker
fail g t = record { byte_states = map (λ l. if is_under g l then absent else l) t.byte_states; gaps = without_gap g t.gaps; tickets = map (fail_ticket g t.byte_states) t.tickets }

-- ---- tickets

abbrev pub without_ticket : ℕ → List Ticket → List Ticket
without_ticket n [] = []
without_ticket n (k ∷ ks) = if k.number == n then ks else k ∷ without_ticket n ks

abbrev pub leave : ℕ → Tracker → Tracker
leave n t = record t { tickets = without_ticket n t.tickets }

-- by the states of the sub-range, and by the mark
abbrev pub status_of : List ByteState → Bool → Status
status_of ls failed =
    if list_all is_present ls then Ready
    else if not (list_any is_absent ls) then Waiting
    else if failed then Failed else Open

abbrev pub status : Ticket → Tracker → Status
status k t = status_of (byte_states_in k.start k.end t.byte_states) k.failed
