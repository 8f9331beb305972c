use Rattle.std.proofs.Common.{◌≤◌, ◌-◌, length}
use Rattle.std.specs.Prelude.{map}
use Rattle.simpletext_postings.specs.Places.{count_under, numbered}
use Rattle.simpletext_postings.proofs.places.places_under.Given as goal

abbrev pub invariant-loop-low : goal.invariant-loop-low
invariant-loop-low l =
    (l.low ≤ count_under l.field l.term (map (numbered l.names) l.places))
    × (count_under l.field l.term (map (numbered l.names) l.places) ≤ l.high)
    × (l.high ≤ length l.places)

abbrev pub decreases-loop-low : goal.decreases-loop-low
decreases-loop-low l = l.high - l.low
