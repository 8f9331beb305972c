-- An archive of no blobs meets what is said of every archive.
use Rattle.std.specs.Prelude.{ℕ, [], List, length, ◌<◌, ◌≤◌, ◌^◌, ◌≡◌, true, refl}
use Rattle.std.proofs.Common.{arith}
use Rattle.cache_outside.specs.Listing.{manifests, names_differ}

pub few_of_none : length {A = List ℕ × List ℕ} [] < 2 ^ 32
few_of_none = omega arith

pub few_manifests_of_none : length (manifests []) ≤ 65536
few_manifests_of_none = omega arith

pub different_of_none : names_differ [] ≡ true
different_of_none = refl
