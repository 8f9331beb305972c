-- What is true of every good state, and of every entry.
use Rattle.std.specs.Prelude.{◌≡◌, ◌≢◌, ◌<◌, ◌≤◌, ℕ, Bool, false, List, length, slice_get, Some, None}
use Rattle.region_ranges.specs.declared.ranges.ByteRange.{ByteRange}
use Rattle.region_ranges.specs.Keys.{IsConfig, tag_of}
use Rattle.sparse_tracker.specs.ByteStates.{absent, pending, present}
use Rattle.cache_policy.specs.Policy.{find, tag_at}
use Rattle.region_cell.specs.Cells.{assign}
use Rattle.region_cell.specs.declared.taken.Taken.TheVariants as taken
use Rattle.cache_door.specs.declared.answers.Want.{Want}
use Rattle.cache_door.specs.declared.answers.Entered.TheVariants.{Held}
use Rattle.cache_door.specs.declared.hold.Hold.{Hold}
use Rattle.cache_door.specs.Machine.{State, Event, Answer, Step, hold_at, cell_at, is_held, enter, take_bytes}
use Rattle.cache_door.specs.Good.{Good}
use Rattle.cache_door.specs.Doors.{IsWant, hold_view}

-- A byte of an open gap is one actor's to store or to fail: two actors' open gaps on a region share no place.
abbrev pub OneOwner : Bool → (ℕ → ℕ → List ℕ) → Type 0
OneOwner tells files = (s : State) (a b i : ℕ) (h k : Hold) → Good tells files s → hold_at s a ≡ Some h → hold_at s b ≡ Some k → h.region ≡ k.region
    → h.gap.upto ≤ i → i < h.gap.end → k.gap.upto ≤ i → i < k.gap.end → a ≡ b

-- An entry of a mapped key is on its region, and each byte that it claims was absent.
abbrev pub ClaimsAbsent : Type 0
ClaimsAbsent = (s : State) (a mount r q now i : ℕ) (want : Want) (g : ByteRange) → IsConfig s.config → IsWant s.config want → find (tag_of want.key) s.policy ≡ Some r → (enter a mount want now s).0 ≡ Held q (Some g) → g.start ≤ i → i < g.end
    → (q ≡ r) × (slice_get (cell_at s r).region.tracker.byte_states i ≡ Some absent)

-- An entry of a key that is not mapped is on a region that nobody held, and each byte that it claims was absent there, once the region
-- had the key.
abbrev pub NewClaimsAbsent : Bool → (ℕ → ℕ → List ℕ) → Type 0
NewClaimsAbsent tells files = (s : State) (a mount q now i : ℕ) (want : Want) (g : ByteRange) → Good tells files s → IsWant s.config want → find (tag_of want.key) s.policy ≡ None → (enter a mount want now s).0 ≡ Held q (Some g) → g.start ≤ i → i < g.end
    → (is_held s q ≡ false) × (slice_get (assign (tag_of want.key) want.len (cell_at s q).region).tracker.byte_states i ≡ Some absent)

-- Another actor's step leaves a hold as it is, and each byte of its open gap pending under it: it is for the hold's own actor to store or
-- to fail.
abbrev pub GapKept : Bool → (ℕ → ℕ → List ℕ) → Type 0
GapKept tells files = (s t : State) (a b i : ℕ) (h : Hold) (e : Event) (answer : Answer) → Good tells files t → Step s a e answer t → b ≢ a → hold_at s b ≡ Some h → h.gap.upto ≤ i → i < h.gap.end
    → (hold_at t b ≡ Some h) × (slice_get (cell_at t h.region).region.tracker.byte_states i ≡ Some (pending h.gap.id))

-- The only actor is never told to wait, where its gap is closed.
abbrev pub NeverWaits : Bool → (ℕ → ℕ → List ℕ) → Type 0
NeverWaits tells files = (s : State) (a : ℕ) → Good tells files s → length s.holds ≡ 1 → (hold_view (hold_at s a)).gap_end ≤ (hold_view (hold_at s a)).upto → take_bytes (hold_at s a) s ≢ taken.Waiting

-- A present byte stays present through every step of every actor, while its region keeps its key.
abbrev pub PresentKept : Type 0
PresentKept = (s t : State) (a r tag i : ℕ) (e : Event) (answer : Answer) → Step s a e answer t → tag_at s.policy r ≡ Some tag → tag_at t.policy r ≡ Some tag → slice_get (cell_at s r).region.tracker.byte_states i ≡ Some present
    → slice_get (cell_at t r).region.tracker.byte_states i ≡ Some present
