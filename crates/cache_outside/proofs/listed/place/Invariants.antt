use Rattle.std.proofs.Common.{◌≡◌, drop}
use Rattle.std.specs.List.{position_from}
use Rattle.cache_outside.specs.Listing.{place_of, is_named}
use Rattle.cache_outside.proofs.listed.place.Given as goal

abbrev pub invariant-loop-i : goal.invariant-loop-i
invariant-loop-i l = position_from (is_named l.name) l.i (drop l.i l.blobs) ≡ place_of l.name l.blobs
