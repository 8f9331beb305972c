-- The eight kinds of step: what each makes of the view of the pass that takes it, and what it tells that pass.
use Rattle.std.specs.Prelude.{◌≡◌, ◌≢◌, ℕ, ◌+◌, ◌-◌, ◌/◌, ◌^◌, ◌<◌, ◌≤◌, ◌==◌, ◌||◌, nat_lt, nat_le, Bool, false, List, [], ◌∷◌, ◌++◌, Option, Some, None, cond}
use Rattle.atomic_table.specs.Table.{Me, Step, rest}
use Rattle.region_ranges.specs.declared.keys.Config.{Config}
use Rattle.sparse_tracker.specs.declared.tickets.Ticket.{Ticket}
use Rattle.sparse_tracker.specs.ByteStates.{Tracker, ticket_of, gap_of}
use Rattle.cache_policy.specs.Policy.{PolicyView}
use Rattle.region_cell.specs.Cells.{CellView, len_of}
use Rattle.cache_door.specs.declared.hold.Hold.{Hold}
use Rattle.cache_table.specs.Abouts.{About}
use Rattle.cache_table.specs.declared.view.View.{View}
use Rattle.cache_table.specs.declared.home.Home.{Home}
use Rattle.cache_table.specs.declared.home.Home.TheVariants.{Policy, Cell, Away}
use Rattle.cache_table.specs.Rule.{last_place, Fits, holds_of, tag_of, tag_held, at_of, weight, Part, by_hold, by_tracker, newcomer, count_in}

-- the region joins those found held where its word shows a hold and the view has none
abbrev pub found_held : ℕ → ℕ → View → List ℕ
found_held k w v = cond (nat_lt 0 k) (cond (nat_lt 0 (holds_of w)) (cond (at_of v.hold == 0) (k ∷ v.found_held) v.found_held) v.found_held) v.found_held

-- a load of the word w at the place k
abbrev pub looked : ℕ → ℕ → View → View
looked k w v = record v { looks = v.looks + 1; loaded = (k, w); found_held = found_held k w v }

-- a take that lost to the word w
abbrev pub lost : ℕ → ℕ → View → View
lost k w v = record v { looks = v.looks + 1; found = (k, w) }

abbrev pub popped : List (ℕ × ℕ) → List (ℕ × ℕ)
popped [] = []
popped (t ∷ ts) = ts

-- what a give may do: from the word `old`, at which the turn was taken, to `new`, and from the hold g to the hold h
pub record Changes (k old new : ℕ) (g h : Option Hold) : Type 0 where
  pub counted : 0 < k → weight k (λ _. 1) h + holds_of old ≡ weight k (λ _. 1) g + holds_of new
  pub elsewhere : (j : ℕ) (f : Hold → ℕ) → 0 < j → j ≢ k → weight j f h ≡ weight j f g
  pub here : 0 < at_of h → at_of h ≡ k → tag_of new ≡ tag_held h
  pub there : 0 < at_of h → at_of h ≢ k → (at_of h ≡ at_of g) × (tag_held h ≡ tag_held g)
  pub tag : 0 < k → 0 < holds_of old → tag_of new ≡ tag_of old

-- the tracker's tickets and gaps changed as the hold did
abbrev pub Moves : ℕ → Option Hold → Option Hold → Tracker → Tracker → Type 0
Moves k g h old new = (x : Part) (f : ℕ → ℕ → ℕ → ℕ) → weight k (by_hold x f) h + by_tracker x f old ≡ weight k (by_hold x f) g + by_tracker x f new

abbrev pub Settles : {A F : Type 0} → ℕ → View → Option Hold → Home A F → Type 0
Settles k v h (Policy p) = Unit {0}
Settles k v h Away = Unit {0}
Settles k v h (Cell c) = Moves k v.hold h v.cell.region.tracker c.metadata.region.tracker

abbrev pub took_policy : ℕ → ℕ → PolicyView → View → View
took_policy k w p v = record v { turns = (k, w / 2) ∷ v.turns; cache_turns = v.cache_turns + 1; taken = p; unmounted_then = v.unmounted; mount_word = (4096, 0); found_held = []; noted = [] }

abbrev pub took_cell : ℕ → ℕ → CellView → View → View
took_cell k w c v = record v { turns = (k, w / 2) ∷ v.turns; region_turns = v.region_turns + 1; last_region = k; cell = c.metadata; found_held = found_held k w v; noted = (k, c.metadata.region.tag, len_of c.metadata.region) ∷ v.noted }

abbrev pub gave_policy : Option Hold → PolicyView → View → View
gave_policy h p v = record v { turns = popped v.turns; hold = h; given = p }

-- the count of frame faults rises where the frame's count rose, or stands at its last value
abbrev pub faulted : ℕ → ℕ → ℕ
faulted old new = cond (nat_lt old new || nat_le (2 ^ 64 - 1) new) 1 0

abbrev pub gave_cell : Option Hold → CellView → View → View
gave_cell h c v = record v { turns = popped v.turns; hold = h; faults = v.faults + faulted v.cell.frame.faults c.metadata.frame.faults }

-- the mount whose word stands at the place k
abbrev pub mount_at : ℕ → View → ℕ
mount_at k v = k - (last_place v.about + 1)

-- a load of the word w of a mount
abbrev pub looked_mount : ℕ → ℕ → View → View
looked_mount k w v = record v { looks = v.looks + 1; loaded = (k, w); mount_word = (mount_at k v, w); gone = cond (w == 2) (mount_at k v ∷ v.gone) v.gone }

abbrev pub ended_mount : ℕ → View → View
ended_mount k v = record v { unmounted = mount_at k v ∷ v.unmounted }

-- the cell has the hold's ticket, and its gap where it is open
pub record HasHold (t : Tracker) (h : Hold) : Type 0 where
  pub ticket : (k : Ticket) × (ticket_of h.ticket t ≡ Some k) × (k.start ≡ h.sub.start) × (k.end ≡ h.sub.end)
  pub gap : h.gap.upto < h.gap.end → gap_of h.gap.id t ≡ Some h.gap

abbrev pub HasHolds : Tracker → Option Hold → Type 0
HasHolds t None = Unit {0}
HasHolds t (Some h) = HasHold t h

-- what is known of a region's cell by the word w of its turn
pub record Counted (w : ℕ) (t : Tracker) : Type 0 where
  pub few : holds_of w ≤ 64
  pub none : holds_of w ≡ 0 → (t.tickets ≡ []) × (t.gaps ≡ [])

module _ {A F : Type 0} where
  -- a load that changes nothing but the note: a pass with all shares has itself unmounted what it has seen gone
  abbrev pub Learns : Step (Home A F) → Me (Home A F) View → ℕ → Me (Home A F) View → Type 0
  Learns st m r n = (n ≡ (looked st.word r m.0, m.1)) × (m.0.shares ≤ 64) × (m.0.shares ≡ 64 → (i : ℕ) → 0 < count_in i m.0.gone → 0 < count_in i m.0.unmounted)

  abbrev pub LooksMount : Step (Home A F) → Me (Home A F) View → ℕ → Me (Home A F) View → Type 0
  LooksMount st m r n = n ≡ (looked_mount st.word r m.0, m.1)

  abbrev pub SetsLive : Step (Home A F) → Me (Home A F) View → ℕ → Me (Home A F) View → Type 0
  SetsLive st m r n = n ≡ m

  abbrev pub SetsGone : Step (Home A F) → Me (Home A F) View → ℕ → Me (Home A F) View → Type 0
  SetsGone st m r n = n ≡ (ended_mount st.word m.0, m.1)

  -- the turn of the place k is taken where its word was w, and y leaves home
  abbrev pub took : ℕ → ℕ → Home A F → View → View
  took k w (Policy p) v = took_policy k w p v
  took k w (Cell c) v = took_cell k w c v
  took k w Away v = record v { turns = (k, w / 2) ∷ v.turns }

  abbrev pub IsCounted : ℕ → Home A F → Type 0
  IsCounted w (Policy p) = ⊥
  IsCounted w Away = ⊥
  IsCounted w (Cell c) = Counted w c.metadata.region.tracker

  abbrev pub Owns : Home A F → Option Hold → Type 0
  Owns (Policy p) h = ⊥
  Owns Away h = ⊥
  Owns (Cell c) h = HasHolds c.metadata.region.tracker h

  -- the turn was taken at the word w
  abbrev pub Taken : Bool → (ℕ → ℕ → List ℕ) → ℕ → ℕ → Me (Home A F) View → Me (Home A F) View → Type 0
  Taken told files k w m n = (y : Home A F) × Fits told files m.0.about k w y × (0 < k → IsCounted w y) × (at_of m.0.hold ≡ k → 0 < k → (tag_of w ≡ tag_held m.0.hold) × Owns y m.0.hold) × (n ≡ (took k w y m.0, (k, y) ∷ m.1))

  -- where the word was as expected, the turn is taken; else the take has lost
  abbrev pub Takes : Bool → (ℕ → ℕ → List ℕ) → Step (Home A F) → Me (Home A F) View → ℕ → Me (Home A F) View → Type 0
  Takes told files st m r n = (r ≡ st.first → Taken told files st.word r m n) × (r ≢ st.first → n ≡ (lost st.word r m.0, m.1))

  -- the turn is given, y comes home, and the hold is h
  abbrev pub gave : Option Hold → Home A F → View → View
  gave h (Policy p) v = gave_policy h p v
  gave h (Cell c) v = gave_cell h c v
  gave h Away v = record v { turns = popped v.turns; hold = h }

  abbrev pub Gives : Option Hold → Step (Home A F) → Me (Home A F) View → ℕ → Me (Home A F) View → Type 0
  Gives h st m r n = (y : Home A F) × (m.1 ≡ (st.word, y) ∷ rest m.1) × (n ≡ (gave h y m.0, rest m.1))

  abbrev pub Looks : Step (Home A F) → Me (Home A F) View → ℕ → Me (Home A F) View → Type 0
  Looks st m r n = n ≡ (looked st.word r m.0, m.1)

abbrev pub no_config : Config
no_config = record { regions = 0; region = 0; range = 0; max_freq = 0; min_delta = 0 }

abbrev pub nobody : About
nobody = record { config = no_config; tells = false; steady = false }

abbrev pub left : View → View
left v = record v { shares = v.shares - 1 }

abbrev pub right : View → View
right v = newcomer v.about 1 v.gone

abbrev pub both : View → View → View
both v w = record v { shares = v.shares + w.shares; unmounted = v.unmounted ++ w.unmounted; gone = v.gone ++ w.gone }

abbrev pub spent : View
spent = newcomer nobody 0 []
