-- The sample archive: its blobs whole, and that they are a lawful archive.
use Rattle.std.specs.Prelude.{ℕ, ◌%◌, ◌<◌, ◌≤◌, ◌^◌, ◌≡◌, true, List, [], ◌∷◌, map, length, codes, refl}
use Rattle.std.proofs.Common.{arith}
use Rattle.std.specs.List.{range_with_len}
use Rattle.cache_outside.specs.Listing.{Listing, manifests, names_differ}

abbrev pub manifest_x : List ℕ
manifest_x = codes "{\"version\":1,\"files\":[{\"name\":\"__a\",\"physical_name\":\"_0.pst\",\"length\":172,\"part_size\":100}],\"segments\":[{\"name\":\"_0\",\"docs\":3,\"postings\":\"_0.pst\"}]}"

abbrev pub manifest_y : List ℕ
manifest_y = codes "{\"version\":1,\"files\":[{\"name\":\"__b\",\"physical_name\":\"big.bin\",\"length\":10000}],\"segments\":[]}"

abbrev pub manifest_w : List ℕ
manifest_w = codes "{\"version\":1,\"files\":[{\"name\":\"__w\",\"physical_name\":\"_0.pst\",\"length\":136}],\"segments\":[{\"name\":\"_0\",\"docs\":3,\"postings\":\"_0.pst\"}]}"

abbrev pub part_0 : List ℕ
part_0 = codes "field body\n  term fox\n    doc 0\n      freq 1\n      pos 1\n    doc 2\n      freq 1\n      pos 0\n  term r"

abbrev pub part_1 : List ℕ
part_1 = codes "ed\n    doc 0\n      freq 1\n      pos 0\nEND\nchecksum 00000000000000000000\n"

abbrev pub postings_w : List ℕ
postings_w = codes "field body\n  term fox\n    doc 0\n      freq 1\n    doc 2\n      freq 1\n  term red\n    doc 0\n      freq 1\nEND\nchecksum 00000000000000000000\n"

abbrev pub manifest_z : List ℕ
manifest_z = codes "{\"version\":1,\"files\":[{\"name\":\"__a\",\"physical_name\":\"_0.pst\",\"length\":172,\"part_size\":100},{\"name\":\"__c\",\"physical_name\":\"_0.fld\",\"length\":111},{\"name\":\"__d\",\"physical_name\":\"_0_1.liv\",\"length\":57}],\"segments\":[{\"name\":\"_0\",\"docs\":3,\"postings\":\"_0.pst\",\"stored\":\"_0.fld\",\"live\":\"_0_1.liv\"}]}"

abbrev pub stored_z : List ℕ
stored_z = codes "doc 0\n  field 0\n    name title\n    type string\n    value red fox\ndoc 1\ndoc 2\nEND\nchecksum 00000000000000000000\n"

abbrev pub live_z : List ℕ
live_z = codes "size 3\n  doc 0\n  doc 2\nEND\nchecksum 00000000000000000000\n"

-- byte i is i mod 251
abbrev pub counting : ℕ → List ℕ
counting n = map (λ i. i % 251) (range_with_len 0 n)

unfoldable pub sample : Listing
sample = (codes "__a.part0", part_0) ∷ (codes "__a.part1", part_1) ∷ (codes "__b", counting 10000) ∷ (codes "__c", stored_z) ∷ (codes "__d", live_z) ∷ (codes "__w", postings_w)
    ∷ (codes "mount-w", manifest_w) ∷ (codes "mount-x", manifest_x) ∷ (codes "mount-y", manifest_y) ∷ (codes "mount-z", manifest_z) ∷ []

pub few_sample : length sample < 2 ^ 32
unfolding sample
few_sample = omega arith

pub few_manifests_sample : length (manifests sample) ≤ 65536
unfolding sample
few_manifests_sample = omega arith

pub different_sample : names_differ sample ≡ true
unfolding sample
different_sample = refl
