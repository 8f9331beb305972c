-- What the calls tell of the pass: what each leaves as it was, and the cause of each answer in the pass's note.
use mathlib.Core.Option.{some}
use lib.ListN.{get_elem?}
use Rattle.std.specs.Prelude.{◌≡◌, ◌≢◌, ◌⊎◌, ℕ, zero, suc, ◌+◌, ◌*◌, ◌/◌, ◌%◌, ◌<◌, ◌≤◌, ◌==◌, Bool, true, IsTrue, List, [], ◌∷◌, ◌++◌, length, take, drop, Option, Some, None, Result, Ok, Err, All}
use Rattle.std.proofs.Common.{refl, ◌∙◌}
use Rattle.std.specs.List.{list_any}
use Rattle.atomic_table.specs.Table.{Me, rest}
use Rattle.region_ranges.specs.Keys.{tag_of as key_tag}
use Rattle.sparse_tracker.specs.declared.tickets.Ticket.{Ticket}
use Rattle.sparse_tracker.specs.ByteStates.{Tracker, ticket_of}
use Rattle.freq_lists.specs.Lists.{times_in}
use Rattle.cache_policy.specs.Policy.{PolicyView}
use Rattle.cache_door.specs.declared.hold.Hold.{Hold}
use Rattle.cache_door.specs.declared.answers.Want.{Want}
use Rattle.cache_door.specs.declared.answers.Glance.{Glance}
use Rattle.cache_door.specs.declared.answers.Glance.TheVariants.{Copied, Busy, Moved, Absent, FrameFault}
use Rattle.cache_door.specs.declared.answers.Entered.{Entered}
use Rattle.cache_door.specs.Machine.{look_at}
use Rattle.cache_door.specs.Doors.{HoldView, hold_view, entry_hold, IsEntry}
use Rattle.cache_table.specs.Abouts.{About}
use Rattle.cache_table.specs.declared.view.View.{View}
use Rattle.cache_table.specs.declared.home.Home.{Home}
use Rattle.cache_table.specs.declared.home.Home.TheVariants.{Policy, Cell, Away}
use Rattle.cache_table.specs.Rule.{place, Suits, Governs, tag_of, count_in}
use Rattle.cache_table.specs.Plays.{popped, spent}

-- between two turns a pass has only looked
pub record Waited (v w : View) : Type 0 where
  pub same : w ≡ record v { looks = w.looks; loaded = w.loaded; found = w.found; found_held = w.found_held }
  pub more : (x : ℕ) → count_in x v.found_held ≤ count_in x w.found_held

-- the one view of a badge
abbrev pub view_of : List View → View
view_of [] = spent
view_of (v ∷ vs) = v

-- what each call on a turn leaves
pub record Stays (v w : View) : Type 0 where
  pub about : w.about ≡ v.about
  pub shares : w.shares ≡ v.shares
  pub unmounted : w.unmounted ≡ v.unmounted
  pub gone : w.gone ≡ v.gone

pub Stays-same : (v : View) → Stays v v
Stays-same v = record { about = refl; shares = refl; unmounted = refl; gone = refl }

pub Stays-on : (v w u : View) → Stays v w → Stays w u → Stays v u
Stays-on v w u p q = record { about = q.about ∙ p.about; shares = q.shares ∙ p.shares; unmounted = q.unmounted ∙ p.unmounted; gone = q.gone ∙ p.gone }

-- the turn of the place k was taken last, at the word w
abbrev pub OnTop : ℕ → ℕ → View → Type 0
OnTop k w v = v.turns ≡ (k, w / 2) ∷ popped v.turns

-- the seat has the slot of the place k in hand, and its value is out of it
abbrev pub InHand : {A F : Type 0} → ℕ → Me (Home A F) View → Type 0
InHand k m = m.1 ≡ (k, Away) ∷ rest m.1

-- a cell that holds no key, and nothing where no place is
abbrev pub IsFreeCell : {A F : Type 0} → Bool → (ℕ → ℕ → List ℕ) → About → Home A F → Type 0
IsFreeCell told files a (Policy p) = ⊥
IsFreeCell told files a Away = ⊥
IsFreeCell told files a (Cell c) = Suits told files a 18446744073709551360 c × (c.metadata.region.tracker.tickets ≡ []) × (c.metadata.region.tracker.gaps ≡ [])

abbrev pub IsFreePolicy : {A F : Type 0} → About → Home A F → Type 0
IsFreePolicy a (Policy p) = Governs a p
IsFreePolicy a Away = ⊥
IsFreePolicy a (Cell c) = ⊥

abbrev pub IsSpace : {A F : Type 0} → Bool → (ℕ → ℕ → List ℕ) → About → Home A F → Type 0
IsSpace told files a (Policy p) = ⊥
IsSpace told files a Away = Unit {0}
IsSpace told files a (Cell c) = Suits told files a 18446744073709551360 c × (c.metadata.region.tracker.tickets ≡ []) × (c.metadata.region.tracker.gaps ≡ [])

-- n slots with nothing behind others
abbrev pub aways : {A F : Type 0} → ℕ → List (Home A F) → List (Home A F)
aways zero ys = ys
aways (suc n) ys = aways n ys ++ Away ∷ []

-- a policy, and then n cells that hold no key, each behind seven slots with nothing
pub record AreSpaced {A F : Type 0} (told : Bool) (files : ℕ → ℕ → List ℕ) (a : About) (n : ℕ) (ys : List (Home A F)) : Type 0 where
  pub count : length ys ≡ 8 * n
  pub each : All (IsSpace told files a) ys
  pub cells : (r : ℕ) → r < n → (y : Home A F) × (get_elem? ys (8 * r + 7) ≡ some y) × IsFreeCell told files a y

abbrev pub AreCells : {A F : Type 0} → Bool → (ℕ → ℕ → List ℕ) → About → ℕ → List (Home A F) → Type 0
AreCells told files a n [] = ⊥
AreCells told files a n (y ∷ ys) = IsFreePolicy a y × AreSpaced told files a n ys

-- no turn is taken, and the pass is not spent
pub record AtRest {A F : Type 0} (a : About) (m : Me (Home A F) View) : Type 0 where
  pub slots : m.1 ≡ []
  pub turns : m.0.turns ≡ []
  pub shares : 0 < m.0.shares
  pub about : m.0.about ≡ a

-- the note of the last turn of the cache is as before, so none was taken
pub record SameCacheTurn (v w : View) : Type 0 where
  pub cache_turns : w.cache_turns ≡ v.cache_turns
  pub taken : w.taken ≡ v.taken
  pub given : w.given ≡ v.given
  pub unmounted_then : w.unmounted_then ≡ v.unmounted_then
  pub mount_word : w.mount_word ≡ v.mount_word

-- the turn of the region at the place k was taken once, and its cell noted, and no other turn was; the hold is h now
pub record OneTurn (k : ℕ) (h : Option Hold) (v w : View) : Type 0 where
  pub stays : Stays v w
  pub hold : w.hold ≡ h
  pub region_turns : w.region_turns ≡ v.region_turns + 1
  pub last_region : w.last_region ≡ k
  pub cache_turns : w.cache_turns ≡ v.cache_turns

-- what is told of frame faults in a call: the count, and whether the answer is one
pub record Faults (a : About) (fault : Type 0) (v w : View) : Type 0 where
  pub later : v.faults ≤ w.faults
  pub rose : fault → v.faults < w.faults
  pub steady : IsTrue a.steady → (w.faults ≡ v.faults) × (fault → ⊥)

-- what a step on a mount's word leaves
pub record StaysBut (v w : View) : Type 0 where
  pub about : w.about ≡ v.about
  pub shares : w.shares ≡ v.shares
  pub turns : w.turns ≡ v.turns
  pub hold : w.hold ≡ v.hold
  pub faults : w.faults ≡ v.faults
  pub region_turns : w.region_turns ≡ v.region_turns
  pub policies : (w.taken ≡ v.taken) × (w.given ≡ v.given) × (w.cache_turns ≡ v.cache_turns) × (w.unmounted_then ≡ v.unmounted_then)
  pub found_held : (w.found_held ≡ v.found_held) × (w.noted ≡ v.noted)

-- whether a mount is among these
abbrev pub marks : List ℕ → ℕ → Bool
marks l m = list_any (λ n. m == n) l

-- the cell has the ticket, and it is marked as failed
abbrev pub IsMarked : ℕ → Tracker → Type 0
IsMarked n t = (k : Ticket) × (ticket_of n t ≡ Some k) × (k.failed ≡ true)

-- the one turn taken is that of the region at the place k
abbrev pub TookRegion : ℕ → View → View → Type 0
TookRegion k v w = (w.region_turns ≡ v.region_turns + 1) × (w.last_region ≡ k) × (w.cache_turns ≡ v.cache_turns)

-- no turn was taken, and words were loaded
abbrev pub TookNone : View → View → Type 0
TookNone v w = (w.region_turns ≡ v.region_turns) × (w.cache_turns ≡ v.cache_turns) × (v.looks < w.looks)

-- Each answer of a look at the region at the place k has its cause in the note. `Copied` and `Absent`: in its turn the cell has the wanted key,
-- and has or lacks the wanted bytes. `Moved`: the word loaded has another tag. `Busy`: the word loaded shows the turn taken, or another word was found.
abbrev pub Glanced : ℕ → Want → View → View → Glance → Type 0
Glanced k want v w Copied = TookRegion k v w × (w.cell.region.tag ≡ key_tag want.key) × (look_at want w.cell.region ≡ Copied)
Glanced k want v w Absent = TookRegion k v w × (w.cell.region.tag ≡ key_tag want.key) × (look_at want w.cell.region ≡ Absent)
Glanced k want v w FrameFault = TookRegion k v w × (w.cell.region.tag ≡ key_tag want.key)
Glanced k want v w (Moved x) = TookNone v w × (w.loaded ≡ (k, x)) × (tag_of x ≢ key_tag want.key)
Glanced k want v w (Busy x) = TookNone v w × (((w.loaded ≡ (k, x)) × (x % 2 ≡ 1)) ⊎ ((w.found ≡ (k, x)) × ((y : ℕ) × (w.loaded ≡ (k, y)) × (x ≢ y))))

-- the cache's turn alone is taken, at the word w, and the policy is out
pub record InCache {A F : Type 0} (a : About) (w : ℕ) (m : Me (Home A F) View) : Type 0 where
  pub turns : m.0.turns ≡ (0, w / 2) ∷ []
  pub slots : m.1 ≡ (0, Away) ∷ []
  pub shares : 0 < m.0.shares
  pub about : m.0.about ≡ a

-- what an entry leaves inside the cache's turn, with the hold h
pub record Within {A F : Type 0} (a : About) (w : ℕ) (h : Option Hold) (m n : Me (Home A F) View) : Type 0 where
  pub turn : InCache a w n
  pub stays : Stays m.0 n.0
  pub hold : n.0.hold ≡ h
  pub taken : n.0.taken ≡ m.0.taken
  pub cache_turns : n.0.cache_turns ≡ m.0.cache_turns
  pub faults : Faults a ⊥ m.0 n.0

abbrev pub hold_in : {X E : Type 0} → Result (Option (X × Hold)) E → Option Hold
hold_in (Ok (Some t)) = Some t.1
hold_in (Ok None) = None
hold_in (Err e) = None

abbrev pub entered_hold : Want → Entered → HoldView
entered_hold want e = entry_hold {E = Unit {0}} want (Ok e)

-- the hold that an entry gives is the one that it tells
abbrev pub IsHeld : About → Want → Entered × Hold → Type 0
IsHeld a want t = (hold_view (Some t.1) ≡ entered_hold want t.0) × IsEntry a.config want t.0 × (t.1.region < a.config.regions)

-- these regions are among those found held
abbrev pub FoundAll : List ℕ → List ℕ → Type 0
FoundAll rs found = (r : ℕ) → 0 < times_in r rs → 0 < count_in (place r) found

-- the policy after the first n free regions were passed over: each is leaving
abbrev pub PassedOver : ℕ → PolicyView → PolicyView → Type 0
PassedOver n p q = q ≡ record p { free = drop n p.free; last_accesses = q.last_accesses; leaving = p.leaving ++ take n p.free }
