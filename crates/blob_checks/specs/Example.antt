-- An archive that tells: one manifest, and the blobs of its files.
use Rattle.std.specs.Prelude.{ℕ, List, [], ◌∷◌, codes, length, ◌<◌, ◌≤◌, ◌^◌, ◌≡◌, true, refl}
use Rattle.std.proofs.Common.{arith}
use Rattle.cache_outside.specs.Listing.{Listing, manifests, names_differ}

abbrev pub example_manifest : List ℕ
example_manifest = codes "{\"version\":1,\"files\":[{\"name\":\"__a\",\"physical_name\":\"a\",\"length\":0},{\"name\":\"__b\",\"physical_name\":\"b\",\"length\":6,\"part_size\":3},{\"name\":\"__c\",\"physical_name\":\"c\",\"length\":4,\"part_size\":3}],\"segments\":[]}"

unfoldable pub example : Listing
example =
    (codes "__c.part0", codes "xyz") ∷ (codes "__a", []) ∷ (codes "mount-t", example_manifest)
    ∷ (codes "__b.part1", codes "def") ∷ (codes "__b.part0", codes "abc") ∷ (codes "__c.part1", codes "!") ∷ []

pub few_blobs : length example < 2 ^ 32
unfolding example
few_blobs = omega arith

pub few_manifests : length (manifests example) ≤ 65536
unfolding example
few_manifests = let one : length (manifests example) ≡ 1 = refl in omega (arith, one)

pub different : names_differ example ≡ true
unfolding example
different = refl
