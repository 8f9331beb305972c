use Rattle.std.proofs.Common.{◌≡◌, ◌≤◌, ◌+◌, drop, length}
use Rattle.cache_outside.specs.Listing.{manifests}
use Rattle.cache_outside.proofs.listed.manifests_in.Given as goal

abbrev pub invariant-loop-i : goal.invariant-loop-i
invariant-loop-i l = (l.count ≤ l.i) × (l.count + length (manifests (drop l.i l.blobs)) ≡ length (manifests l.blobs))
