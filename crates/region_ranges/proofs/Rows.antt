-- Worked examples, computed.
use Rattle.std.proofs.Common.{refl}
use Rattle.std.specs.Prelude.{◌≡◌, List, [], ◌∷◌, Some, None, map, true, false}
use Rattle.std.specs.List.{range_with_len}
use Rattle.region_ranges.specs.declared.ranges.ByteRange.{ByteRange}
use Rattle.region_ranges.specs.declared.keys.RegionKey.{RegionKey}
use Rattle.region_ranges.specs.Ranges.{has, free_below, first_run, aligned}
use Rattle.region_ranges.specs.Keys.{tag_of, key_of, manifest_of, free_tag}

abbrev key : RegionKey
key = record { manifest = 1; file = 2; region = 3 }

tag_is : tag_of key ≡ 1100048498691
tag_is = refl

key_is : key_of 1100048498691 ≡ Some key
key_is = refl

manifest_is : manifest_of 1100048498691 ≡ 1
manifest_is = refl

no_key_is_free : key_of free_tag ≡ None
no_key_is_free = refl

-- 0..10 without 4..6
abbrev cut : List ByteRange
cut = record { start = 0; end = 4 } ∷ record { start = 6; end = 10 } ∷ []

members_are : map (has cut) (range_with_len 3 8) ≡ true ∷ false ∷ false ∷ true ∷ true ∷ true ∷ true ∷ false ∷ []
members_are = refl

run_from_5 : first_run (free_below cut 20) 0 5 ≡ Some (record { start = 4; end = 6 })
run_from_5 = refl

run_from_6 : first_run (free_below cut 20) 0 6 ≡ Some (record { start = 10; end = 20 })
run_from_6 = refl

run_in_full : first_run (free_below cut 10) 6 0 ≡ None
run_in_full = refl

range_in_the_middle : aligned 5000 4096 10000 ≡ record { start = 4096; end = 8192 }
range_in_the_middle = refl

range_at_the_end : aligned 8192 4096 10000 ≡ record { start = 8192; end = 10000 }
range_at_the_end = refl
