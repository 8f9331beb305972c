-- Where the gap of a claim lies.
use Rattle.std.proofs.Common.{arith, ◌≡◌, ◌≢◌, ◌<◌, ◌≤◌, ◌+◌, ◌-◌, ◌*◌, ◌/◌, ℕ, Option, Some, None}
use Rattle.std.specs.Prelude.{IfSome}
use Rattle.region_ranges.specs.declared.ranges.ByteRange.{ByteRange}
use Rattle.region_ranges.specs.declared.keys.RegionKey.{RegionKey}
use Rattle.region_ranges.specs.Keys.{IsKey, tag_of, free_tag}
use Rattle.sparse_tracker.specs.Places.{ClaimPlaces}
use Rattle.region_cell.specs.Cells.{Region, range_round, claim_run, len_of}

below_end : (q range y : ℕ) → 0 < range → q ≡ y / range → y < q * range + range
below_end q range y h e = rw e (omega arith)

above_start : (range x : ℕ) → 0 < range → x / range * range ≤ x
above_start range x h = omega arith

pub claimed_inside : ClaimPlaces → (range : ℕ) (sub : ByteRange) (c : Region) → 0 < range → sub.start < sub.end → sub.end ≤ len_of c → sub.start / range ≡ (sub.end - 1) / range
    → (o : Option ByteRange) → claim_run range sub c ≡ o
    → IfSome o (λ g. (g.start < g.end) × (sub.start / range * range ≤ g.start) × (g.end ≤ sub.start / range * range + range) × (g.end ≤ len_of c))
claimed_inside law range sub c pos some end one None e = tt
claimed_inside law range sub c pos some end one (Some run) e =
    let a = above_start range sub.start pos in
    let b = below_end (sub.start / range) range (sub.end - 1) pos one in
    let w = (law.some (range_round range sub c) sub run c.tracker a some (omega (arith, b)) (omega arith) e).1.1.within in
    (omega (arith, w), omega (arith, w), omega (arith, w), omega (arith, w))

-- no key's tag is the free one
pub key_bound : (k : RegionKey) → IsKey k → tag_of k ≢ free_tag
key_bound k h e = omega (arith, h.0, h.1, h.2, e)
