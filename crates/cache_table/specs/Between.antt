-- What the rule of the table says of the cache between two steps, while nobody has the cache's turn.
use Rattle.std.specs.Prelude.{◌≡◌, ℕ, ◌%◌, ◌<◌, ◌≤◌, Bool, List, length, slice_index}
use mathlib.Core.Option.{some}
use lib.ListN.{get_elem?}
use Rattle.atomic_table.specs.Table.{State}
use Rattle.sparse_tracker.specs.Weights.{total}
use Rattle.cache_policy.specs.Policy.{PolicyView}
use Rattle.cache_policy.specs.Kept as policies
use Rattle.region_cell.specs.Cells.{CellView}
use Rattle.region_cell.specs.Cells as cells
use Rattle.cache_table.specs.Abouts.{About}
use Rattle.cache_table.specs.Rule.{last_place, at_of, tag_held, tag_of, holds_of, has_hold}
use Rattle.cache_table.specs.declared.view.View.{View}
use Rattle.cache_table.specs.declared.home.Home.{Home}
use Rattle.cache_table.specs.declared.home.Home.TheVariants.{Policy, Cell}

-- The cell of the region at the place k is at home: its key is that of the region's word, and each byte that it marks as present is the
-- archive's byte of this key, where the archive and all frames tell.
pub record CellKept {A F : Type 0} (told : Bool) (files : ℕ → ℕ → List ℕ) (s : State (Home A F) View) (k : ℕ) : Type 0 where
  pub cell : CellView
  pub home : get_elem? s.homes k ≡ some (some (Cell cell))
  pub tag : cell.metadata.region.tag ≡ tag_of (slice_index s.words k)
  pub good : cells.IsGood told files cell

-- The one policy is at home: each region is free, leaving, or mapped to one key, in the list of its frequency and in no other, and the keys of
-- mapped regions differ. Each region's word counts the passes that hold it, and each of them holds it for the key of the word: no region that
-- is held has been given another key. In each region whose turn is free, each byte marked as present is the archive's.
pub record IsKept {A F : Type 0} (told : Bool) (files : ℕ → ℕ → List ℕ) (a : About) (s : State (Home A F) View) : Type 0 where
  pub policy : PolicyView
  pub home : get_elem? s.homes 0 ≡ some (some (Policy policy))
  pub listed : policies.IsGood policy
  pub regions : length policy.tags ≡ a.config.regions
  pub holders : (k : ℕ) → 0 < k → k ≤ last_place a → total (has_hold k) s.views ≡ holds_of (slice_index s.words k)
  pub keys : (j : ℕ) (v : View) → get_elem? s.views j ≡ some v → 0 < at_of v.hold → tag_of (slice_index s.words (at_of v.hold)) ≡ tag_held v.hold
  pub bytes : (k : ℕ) → 0 < k → k ≤ last_place a → k % 8 ≡ 0 → slice_index s.words k % 2 ≡ 0 → CellKept told files s k

-- In every state that the rule allows of a table with some key, the cache is kept so while nobody has the cache's turn.
abbrev pub Keeps : {A F K : Type 0} → Bool → (ℕ → ℕ → List ℕ) → (K → About) → (K → State (Home A F) View → Type 0) → Type 0
Keeps told files about rule = (key : _) (s : _) → rule key s → slice_index s.words 0 % 2 ≡ 0 → IsKept told files (about key) s
