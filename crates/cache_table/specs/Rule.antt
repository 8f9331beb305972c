-- The rule of the table: what holds between any two steps, whichever pass takes them.
-- Word 0 is the cache's, word 8 * (r + 1) that of region r, and the words of the 4,096 mounts come behind. The words and slots between them are
-- never touched: so no two regions' words or slots lie in one line of a processor's memory, 64 bytes, and turns of two regions don't get in each other's way. A turn word is 256 * tag + 2 * holds + turn:
-- the turn is 1 where it is taken, and the cache's word has neither tag nor holds. A mount word is 0 where the mount is new, 1 where it is live, 2 where it is gone.
use Rattle.std.specs.Prelude.{◌≡◌, ◌≢◌, ℕ, zero, suc, ◌+◌, ◌*◌, ◌/◌, ◌%◌, ◌<◌, ◌≤◌, ◌==◌, Bool, false, IsTrue, List, [], ◌∷◌, length, slice_index, cond, Option, Some, None}
use mathlib.Core.Option as core
use mathlib.Core.Option.{none, some}
use lib.ListN.{get_elem?}
use Rattle.atomic_table.specs.Table.{State}
use Rattle.region_ranges.specs.Keys.{free_tag}
use Rattle.sparse_tracker.specs.ByteStates.{Tracker, new_tracker}
use Rattle.sparse_tracker.specs.Weights.{total, tickets_weigh, gaps_weigh}
use Rattle.cache_policy.specs.Policy.{PolicyView}
use Rattle.cache_policy.specs.Kept as policy
use Rattle.region_cell.specs.Cells.{CellView, CellMetadata, IsGood}
use Rattle.cache_door.specs.declared.hold.Hold.{Hold}
use Rattle.cache_door.specs.Good.{hold_ticket, hold_gap}
use Rattle.cache_table.specs.Abouts.{About}
use Rattle.cache_table.specs.declared.view.View.{View}
use Rattle.cache_table.specs.declared.home.Home.{Home}
use Rattle.cache_table.specs.declared.home.Home.TheVariants.{Policy, Cell, Away}

-- 1 where the two are equal
abbrev pub only : ℕ → ℕ → ℕ
only n k = cond (n == k) 1 0

-- how often the place k stands among the turns
abbrev pub times : ℕ → List (ℕ × ℕ) → ℕ
times k [] = 0
times k (t ∷ ts) = cond (t.0 == k) 1 0 + times k ts

abbrev pub has_turn : ℕ → View → ℕ
has_turn k v = times k v.turns

-- the place of a region's word and slot, and the last of these places
abbrev pub place : ℕ → ℕ
place r = 8 * (r + 1)

abbrev pub last_place : About → ℕ
last_place a = 8 * a.config.regions

-- the place of the word of the region held, or 0, and the tag of the key
abbrev pub at_of : Option Hold → ℕ
at_of None = 0
at_of (Some h) = place h.region

abbrev pub tag_held : Option Hold → ℕ
tag_held None = 0
tag_held (Some h) = h.tag

abbrev pub value : (Hold → ℕ) → Option Hold → ℕ
value f None = 0
value f (Some h) = f h

-- what a hold on the region at k weighs. Two lists with one weight under every f have the same members, as many times each
abbrev pub weight : ℕ → (Hold → ℕ) → Option Hold → ℕ
weight k f o = cond (at_of o == k) (value f o) 0

abbrev pub weigh : ℕ → (Hold → ℕ) → View → ℕ
weigh k f v = weight k f v.hold

abbrev pub has_hold : ℕ → View → ℕ
has_hold k v = weigh k (λ _. 1) v

-- a cell has tickets and open gaps
pub data Part : Type 0 where
  tickets : Part
  gaps : Part

abbrev pub by_hold : Part → (ℕ → ℕ → ℕ → ℕ) → Hold → ℕ
by_hold tickets f = hold_ticket f
by_hold gaps f = hold_gap f

abbrev pub by_tracker : Part → (ℕ → ℕ → ℕ → ℕ) → Tracker → ℕ
by_tracker tickets f t = tickets_weigh f t
by_tracker gaps f t = gaps_weigh f t

-- how often the number x stands in the list
abbrev pub count_in : ℕ → List ℕ → ℕ
count_in x [] = 0
count_in x (y ∷ ys) = cond (y == x) 1 0 + count_in x ys

abbrev pub has_unmounted : ℕ → View → ℕ
has_unmounted m v = count_in m v.unmounted

abbrev pub shares : View → ℕ
shares v = v.shares

abbrev pub tag_of : ℕ → ℕ
tag_of w = w / 256

abbrev pub holds_of : ℕ → ℕ
holds_of w = w / 2 % 128

-- each turn's word shows it taken, and its other bits are as they were noted
abbrev pub Noted : ℕ → List ℕ → List (ℕ × ℕ) → Type 0
Noted n words [] = Unit {0}
Noted n words (t ∷ ts) = (t.0 ≤ n) × (slice_index words t.0 ≡ 2 * t.1 + 1) × Noted n words ts

-- the regions among the turns
abbrev pub regions_in : List (ℕ × ℕ) → ℕ
regions_in [] = 0
regions_in (t ∷ ts) = cond (t.0 == 0) 0 1 + regions_in ts

-- The policy at home is good: each region is in exactly one list, once, in that of its frequency where it is mapped, and the
-- keys of mapped regions differ. It is of as many regions as the cache.
pub record Governs (a : About) (p : PolicyView) : Type 0 where
  pub good : policy.IsGood p
  pub regions : length p.tags ≡ a.config.regions

-- The cell at home under the word w has the word's tag and is good: the bytes that are present are the archive's, where `told` says that it tells
-- its files. Its frame has the region size, tells its bytes where all frames did at the start, and is steady where all were.
pub record Suits (told : Bool) (files : ℕ → ℕ → List ℕ) (a : About) (w : ℕ) (c : CellView) : Type 0 where
  pub tag : c.metadata.region.tag ≡ tag_of w
  pub size : c.metadata.frame.size ≡ a.config.region
  pub range : c.metadata.range ≡ a.config.range
  pub tells : IsTrue a.tells → IsTrue c.metadata.frame.tells
  pub steady : IsTrue a.steady → IsTrue c.metadata.frame.steady
  pub good : IsGood told files c

module _ {A F : Type 0} where
  -- the value that may be at home under the word w at the place k
  abbrev pub Fits : Bool → (ℕ → ℕ → List ℕ) → About → ℕ → ℕ → Home A F → Type 0
  Fits told files a zero w (Policy p) = Governs a p
  Fits told files a zero w (Cell c) = ⊥
  Fits told files a zero w Away = ⊥
  Fits told files a (suc r) w (Policy p) = ⊥
  Fits told files a (suc r) w Away = ⊥
  Fits told files a (suc r) w (Cell c) = Suits told files a w c

  abbrev pub Shelved : Bool → (ℕ → ℕ → List ℕ) → About → List (core.Option (Home A F)) → ℕ → ℕ → Type 0
  Shelved told files a homes k w = (y : Home A F) × (get_elem? homes k ≡ some (some y)) × Fits told files a k w y

-- what one view and the words show
pub record Sound (a : About) (words : List ℕ) (v : View) : Type 0 where
  pub about : 0 < v.shares → v.about ≡ a
  -- the word of each turn that it has shows the turn taken, and the other bits are as it noted them
  pub noted : Noted (last_place a) words v.turns
  -- it has at most one region's turn, which is the one of its last region turn
  pub one_region : regions_in v.turns ≤ 1
  pub last : (k : ℕ) → 0 < k → 0 < times k v.turns → v.last_region ≡ k
  -- its hold's tag is that of the region's word
  pub tagged : 0 < at_of v.hold → (at_of v.hold ≤ last_place a) × (tag_of (slice_index words (at_of v.hold)) ≡ tag_held v.hold)
  -- a mount that it has unmounted or seen gone has a gone word
  pub gone : (m : ℕ) → 0 < count_in m v.unmounted + count_in m v.gone → (m < 4096) × (slice_index words (last_place a + 1 + m) ≡ 2)
  -- without a share it is spent: it has no turn and no hold, and its lists are empty
  pub spent : v.shares ≡ 0 → (v.turns ≡ []) × (v.hold ≡ None) × (v.unmounted ≡ []) × (v.gone ≡ [])

pub record Ruled {A F : Type 0} (told : Bool) (files : ℕ → ℕ → List ℕ) (a : About) (s : State (Home A F) View) : Type 0 where
  pub wide : length s.words ≡ last_place a + 1 + 4096
  pub deep : length s.homes ≡ last_place a + 1
  -- a turn word shows its turn taken exactly where one view has that turn, and no two views have it
  pub turns : (k : ℕ) → k ≤ last_place a → total (has_turn k) s.views ≡ slice_index s.words k % 2
  -- a slot is home exactly where its turn is free: the cache's slot has a good policy, and a region's a good cell whose tag is its word's
  pub free : (k : ℕ) → k ≤ last_place a → slice_index s.words k % 2 ≡ 0 → k % 8 ≡ 0 → Shelved told files a s.homes k (slice_index s.words k)
  pub taken : (k : ℕ) → k ≤ last_place a → slice_index s.words k % 2 ≡ 1 → get_elem? s.homes k ≡ some none
  -- a region word's hold number is the number of views with a hold on that region
  pub held : (k : ℕ) → 0 < k → k ≤ last_place a → total (has_hold k) s.views ≡ holds_of (slice_index s.words k)
  -- a mount whose word is gone is among the unmounted of some view
  pub unmounted : (m : ℕ) → m < 4096 → slice_index s.words (last_place a + 1 + m) ≡ 2 → 0 < total (has_unmounted m) s.views
  -- what each view alone shows: its turns, its hold's tag, and the gone words of its mounts
  pub sound : (j : ℕ) (v : View) → get_elem? s.views j ≡ some v → Sound a s.words v
  pub all_shares : total shares s.views ≡ 64
  -- the tickets of a cell at home are those of the holds on its region, each of one hold and with its sub-range, and the open gaps are those of
  -- these holds, each of one hold and with its present end and end; and so are those that a view noted, while it has the region's turn
  pub owned : (x : Part) (k : ℕ) (c : CellView) (f : ℕ → ℕ → ℕ → ℕ) → 0 < k → get_elem? s.homes k ≡ some (some (Cell c)) → total (weigh k (by_hold x f)) s.views ≡ by_tracker x f c.metadata.region.tracker
  pub owned_out : (x : Part) (j k : ℕ) (v : View) (f : ℕ → ℕ → ℕ → ℕ) → 0 < k → get_elem? s.views j ≡ some v → 0 < times k v.turns → total (weigh k (by_hold x f)) s.views ≡ by_tracker x f v.cell.region.tracker

-- the table before any step: each turn is free, nothing is held, and no mount is gone
pub record Fresh {A F : Type 0} (told : Bool) (files : ℕ → ℕ → List ℕ) (a : About) (words : List ℕ) (slots : List (Home A F)) : Type 0 where
  pub wide : length words ≡ last_place a + 1 + 4096
  pub deep : length slots ≡ last_place a + 1
  pub free : (k : ℕ) → k ≤ last_place a → (slice_index words k % 2 ≡ 0) × (holds_of (slice_index words k) ≡ 0)
  pub home : (k : ℕ) → k ≤ last_place a → k % 8 ≡ 0 → (y : Home A F) × (get_elem? slots k ≡ some y) × Fits told files a k (slice_index words k) y
  pub unclaimed : (k : ℕ) (c : CellView) → 0 < k → get_elem? slots k ≡ some (Cell c) → (c.metadata.region.tracker.tickets ≡ []) × (c.metadata.region.tracker.gaps ≡ [])
  pub alive : (m : ℕ) → m < 4096 → slice_index words (last_place a + 1 + m) ≢ 2

abbrev pub no_metadata : CellMetadata
no_metadata = record { region = record { tag = free_tag; tracker = new_tracker 0 }; frame = record { faults = 0; size = 0; tells = false; steady = false }; range = 0 }

abbrev pub no_policy : PolicyView
no_policy = record { free = []; lists = []; tags = []; last_accesses = []; leaving = []; evictions = 0; promotions = 0; demotions = 0; min_delta = 0 }

-- a view with nothing but shares and mounts seen gone
abbrev pub newcomer : About → ℕ → List ℕ → View
newcomer a n gone = record { about = a; shares = n; turns = []; hold = None; unmounted = []; gone = gone; looks = 0; loaded = (0, 0); found = (0, 0); cache_turns = 0; taken = no_policy; given = no_policy; unmounted_then = []; mount_word = (4096, 0); found_held = []; region_turns = 0; last_region = 0; cell = no_metadata; noted = []; faults = 0 }
