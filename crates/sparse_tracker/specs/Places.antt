-- Claims and changes of states, told place by place.
use Rattle.std.specs.Prelude.{◌≡◌, ◌≢◌, ◌<◌, ◌≤◌, ◌+◌, ℕ, List, length, slice_get, Some, None}
use Rattle.region_ranges.specs.declared.ranges.ByteRange.{ByteRange}
use Rattle.sparse_tracker.specs.ByteStates.{ByteState, absent, present, Tracker, claimed_run, wait_for_range, wait_if_pending, progress, complete, fail, leave}

-- the first absent byte of `sub`
pub record IsFirstAbsent (ls : List ByteState) (sub : ByteRange) (at : ℕ) : Type 0 where
  pub within : (sub.start ≤ at) × (at < sub.end)
  pub here : slice_get ls at ≡ Some absent
  pub before : (i : ℕ) → sub.start ≤ i → i < at → slice_get ls i ≢ Some absent

-- the greatest run of absent bytes in the range round a place
pub record IsRunRound (ls : List ByteState) (range : ByteRange) (at : ℕ) (run : ByteRange) : Type 0 where
  pub within : (range.start ≤ run.start) × (run.start ≤ at) × (at < run.end) × (run.end ≤ range.end)
  pub absent_all : (i : ℕ) → run.start ≤ i → i < run.end → slice_get ls i ≡ Some absent
  pub left : (i : ℕ) → range.start ≤ i → i + 1 ≡ run.start → slice_get ls i ≢ Some absent
  pub right : run.end < range.end → slice_get ls run.end ≢ Some absent

-- where no byte of `sub` is absent a claim takes nothing, else the run round the first one
pub record ClaimPlaces : Type 0 where
  pub some : (range sub run : ByteRange) (t : Tracker) → range.start ≤ sub.start → sub.start < sub.end → sub.end ≤ range.end → range.end ≤ length t.byte_states → claimed_run range sub t ≡ Some run → (at : ℕ) × (IsFirstAbsent t.byte_states sub at × IsRunRound t.byte_states range at run)
  pub none : (range sub : ByteRange) (t : Tracker) → range.start ≤ sub.start → sub.end ≤ range.end → range.end ≤ length t.byte_states → claimed_run range sub t ≡ None → (i : ℕ) → sub.start ≤ i → i < sub.end → slice_get t.byte_states i ≢ Some absent

-- a present byte stays present
pub record PresentStays : Type 0 where
  pub waits : (range sub : ByteRange) (t : Tracker) (i : ℕ) → range.end ≤ length t.byte_states → slice_get t.byte_states i ≡ Some present → slice_get (wait_for_range range sub t).byte_states i ≡ Some present
  pub joins : (sub : ByteRange) (t : Tracker) (i : ℕ) → slice_get t.byte_states i ≡ Some present → slice_get (wait_if_pending sub t).byte_states i ≡ Some present
  pub progress : (g to : ℕ) (t : Tracker) (i : ℕ) → slice_get t.byte_states i ≡ Some present → slice_get (progress g to t).byte_states i ≡ Some present
  pub complete : (g : ℕ) (t : Tracker) (i : ℕ) → slice_get t.byte_states i ≡ Some present → slice_get (complete g t).byte_states i ≡ Some present
  pub fail : (g : ℕ) (t : Tracker) (i : ℕ) → slice_get t.byte_states i ≡ Some present → slice_get (fail g t).byte_states i ≡ Some present
  pub leave : (n : ℕ) (t : Tracker) (i : ℕ) → slice_get t.byte_states i ≡ Some present → slice_get (leave n t).byte_states i ≡ Some present
