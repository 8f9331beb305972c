-- A tracker of ten bytes, step by step.
use Rattle.sparse_tracker.specs.ByteStates.{Tracker, new_tracker, wait_for_range, wait_if_pending, progress, fail}

-- ten bytes claimed by somebody who waits for those at 2 and 3
abbrev pub claimed : Tracker
claimed = wait_for_range (record { start = 0; end = 10 }) (record { start = 2; end = 4 }) (new_tracker 10)

-- fetched to 3, and then to 4
abbrev pub begun : Tracker
begun = progress 0 3 claimed

abbrev pub fetched : Tracker
fetched = progress 0 4 begun

-- the rest failed
abbrev pub lost : Tracker
lost = fail 0 fetched

-- somebody waits for the bytes below 4
abbrev pub joined : Tracker
joined = wait_if_pending (record { start = 0; end = 4 }) lost
