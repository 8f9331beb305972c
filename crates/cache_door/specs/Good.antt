-- The good state of a cache: what is true between any two calls.
use Rattle.std.specs.Prelude.{◌≡◌, ◌≢◌, ◌<◌, ◌==◌, cond, nat_lt, IsTrue, ℕ, Bool, true, false, List, length, Option, Some, None}
use Rattle.region_ranges.specs.Keys.{free_tag, IsConfig}
use Rattle.region_ranges.specs.declared.keys.Config.{Config}
use Rattle.sparse_tracker.specs.Kept as tracker
use Rattle.sparse_tracker.specs.Weights.{total, by_gap, tickets_weigh, gaps_weigh}
use Rattle.freq_lists.specs.Lists.{is_in}
use Rattle.cache_policy.specs.Policy.{tag_at}
use Rattle.cache_policy.specs.Kept as policy
use Rattle.region_cell.specs.Cells.{IsRanged, IsWhole, IsFilled}
use Rattle.cache_door.specs.declared.hold.Hold.{Hold}
use Rattle.cache_door.specs.Machine.{State, Cell, cell_at, hold_at}

-- what the holds on a region weigh: by number, start and end of their tickets, and by id, present end and end of their open gaps
abbrev pub weigh_hold : ℕ → (Hold → ℕ) → Option Hold → ℕ
weigh_hold r f None = 0
weigh_hold r f (Some h) = cond (h.region == r) (f h) 0

abbrev pub hold_ticket : (ℕ → ℕ → ℕ → ℕ) → Hold → ℕ
hold_ticket f h = f h.ticket h.sub.start h.sub.end

abbrev pub hold_gap : (ℕ → ℕ → ℕ → ℕ) → Hold → ℕ
hold_gap f h = cond (nat_lt h.gap.upto h.gap.end) (by_gap f h.gap) 0

-- a hold is on a region that is not free and whose cell has the hold's key
pub record HoldFits (s : State) (h : Hold) : Type 0 where
  pub region : h.region < length s.cells
  pub tag : (cell_at s h.region).region.tag ≡ h.tag
  pub key : h.tag ≢ free_tag
  pub busy : is_in h.region s.policy.free ≡ false

-- the tickets of a cell are those of the holds on it, each of one hold and with its sub-range: under every f they weigh the same
abbrev pub TicketsOwned : State → Type 0
TicketsOwned s = (r : ℕ) (f : ℕ → ℕ → ℕ → ℕ) → r < length s.cells → total (weigh_hold r (hold_ticket f)) s.holds ≡ tickets_weigh f (cell_at s r).region.tracker

-- and so are its open gaps
abbrev pub GapsOwned : State → Type 0
GapsOwned s = (r : ℕ) (f : ℕ → ℕ → ℕ → ℕ) → r < length s.cells → total (weigh_hold r (hold_gap f)) s.holds ≡ gaps_weigh f (cell_at s r).region.tracker

-- as many regions, frequencies and mounts as there are to be, 1 to 64 actors, and the least interval of the settings
pub record Counts (s : State) : Type 0 where
  pub cells : length s.cells ≡ s.config.regions
  pub tags : length s.policy.tags ≡ s.config.regions
  pub lists : length s.policy.lists ≡ s.config.max_freq
  pub gone : length s.gone ≡ 4096
  pub delta : s.policy.min_delta ≡ s.config.min_delta
  pub actors : (0 < length s.holds) × (length s.holds < 65)

-- What is true of each cell. `tells` says whether the archive does, and `files` gives the bytes of file f of manifest m; `told` says
-- whether the frames do.
pub record GoodCell (tells told : Bool) (files : ℕ → ℕ → List ℕ) (config : Config) (c : Cell) : Type 0 where
  -- gaps are apart, and the states from a gap's present end to its end are pending under it, and no others
  pub tracker : tracker.IsGood c.region.tracker
  -- in each aligned range present states stand before absent ones or before those of one gap; a ticket's bytes lie in one aligned
  -- range, and a ticket that waits for an absent byte is marked failed
  pub ranged : IsRanged config.range c.region
  -- a cell that is told has as many bytes as a region
  pub bytes : IsTrue told → length c.bytes ≡ config.region
  -- each byte that is present is the content's byte of the cell's key
  pub filled : IsTrue tells → IsTrue told → IsFilled files config.region c.region c.bytes
  -- a cell with a key has as many states as that region has bytes by the content
  pub whole : IsTrue tells → IsWhole files config.region c.region

pub record Good (tells : Bool) (files : ℕ → ℕ → List ℕ) (s : State) : Type 0 where
  pub config : IsConfig s.config
  pub counts : Counts s
  -- each region is free, leaving, or in the list of its frequency, once; the keys of mapped regions differ
  pub policy : policy.IsGood s.policy
  -- a mapped region's cell has its key, and a leaving region's cell has a key
  pub mapped : (r tag : ℕ) → tag_at s.policy r ≡ Some tag → ((cell_at s r).region.tag ≡ tag) × (tag ≢ free_tag)
  pub leaving : (r : ℕ) → is_in r s.policy.leaving ≡ true → (cell_at s r).region.tag ≢ free_tag
  -- each hold is on a region that is not free and whose cell has the hold's key
  pub holds : (a : ℕ) (h : Hold) → hold_at s a ≡ Some h → HoldFits s h
  -- the tickets and open gaps of a cell are those of the holds on it, each of one hold
  pub tickets : TicketsOwned s
  pub gaps : GapsOwned s
  pub cells : (r : ℕ) → r < length s.cells → GoodCell tells s.told files s.config (cell_at s r)
