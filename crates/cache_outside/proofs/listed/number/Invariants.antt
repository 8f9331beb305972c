use Rattle.std.proofs.Common.{◌≡◌, ◌≤◌, drop}
use Rattle.std.specs.Prelude.{filter}
use Rattle.std.specs.List.{position_from}
use Rattle.cache_outside.specs.Listing.{manifest_number, is_named, is_manifest}
use Rattle.cache_outside.proofs.listed.number.Given as goal

abbrev pub invariant-loop-i : goal.invariant-loop-i
invariant-loop-i l =
    (l.count ≤ l.i) × (position_from (is_named l.name) l.count (filter is_manifest (drop l.i l.blobs)) ≡ manifest_number l.name l.blobs)
