-- A part of a file as a part of its region.
use Rattle.std.specs.Prelude.{min, length, drop, List}
use Rattle.std.proofs.lemmas.List.{length-take, length-drop}
use Rattle.region_ranges.specs.declared.keys.Config.{Config}
use Rattle.region_ranges.specs.declared.keys.RegionKey.{RegionKey}
use Rattle.region_ranges.specs.Keys.{IsConfig, tag_of, manifest_of}
use Rattle.region_cell.specs.Cells.{file_of, part_of, region_bytes}
use Rattle.cache_door.specs.Doors.{IsWant}
use Rattle.std.proofs.Common.{arith, ◌≡◌, ◌<◌, ◌≤◌, ◌+◌, ◌-◌, ◌*◌, ◌/◌, ◌%◌, ℕ, sym, ap, ◌∙◌, subst}
use Rattle.std.proofs.Math.Nat.{mul-le-mul_left, mul-add-div_right, mul-le-mul_right, lt-div-mul-add, div-mul-le_self}
use Rattle.std.proofs.lemmas.Nat.{div-add-mod', div_below}

-- with k * (q * r) in one form
regroup : (k q r : ℕ) → k * (q * r) ≡ k * q * r
regroup k q r = grind arith

spread_sum : (a b r : ℕ) → (a + b) * r ≡ a * r + b * r
spread_sum a b r = grind arith

shifted : (r base m x : ℕ) → 0 < r → base ≡ m * r → base ≤ x → x / r ≡ m + (x - base) / r
shifted r base m x some is le =
    let e : x ≡ m * r + (x - base) = omega (arith, is, le) in
    ap (λ n. n / r) e ∙ mul-add-div_right {m = r} some m (x - base)

pub record InRegion (r size start end : ℕ) : Type 0 where
  pub below : start / size * size ≤ start
  pub inside : end ≤ start / size * size + size
  pub same : (start - start / size * size) / r ≡ (end - start / size * size - 1) / r

pub in_region : (r size start end : ℕ) → 0 < r → 0 < size → size % r ≡ 0 → start < end → start / r ≡ (end - 1) / r → InRegion r size start end
in_region r size start end some_r some_size divides less same =
    let k = start / size in
    let q = size / r in
    let whole : q * r ≡ size = omega (arith, div-add-mod' size r, divides) in
    let base : k * size ≡ k * q * r = ap (λ n. k * n) (sym whole) ∙ regroup k q r in
    let low : k * size ≤ start = div-mul-le_self start size in
    let high : start < k * size + size = lt-div-mul-add {a = start} some_size in
    let sum : (k * q + q) * r ≡ k * q * r + q * r = spread_sum (k * q) q r in
    let below : start / r < k * q + q = div_below start r (k * q + q) some_r (omega (arith, sum, high, base, whole)) in
    let most : (start / r + 1) * r ≤ (k * q + q) * r = mul-le-mul_right r (omega (arith, below)) in
    let next : (start / r + 1) * r ≡ start / r * r + 1 * r = spread_sum (start / r) 1 r in
    let last : end - 1 < (end - 1) / r * r + r = lt-div-mul-add {a = end - 1} some_r in
    let row : (end - 1) / r * r ≡ start / r * r = ap (λ n. n * r) (sym same) in
    let first : start / r ≡ k * q + (start - k * size) / r = shifted r (k * size) (k * q) start some_r base low in
    let second : (end - 1) / r ≡ k * q + (end - 1 - k * size) / r = shifted r (k * size) (k * q) (end - 1) some_r base (omega (arith, low, less)) in
    let swap : end - 1 - k * size ≡ end - k * size - 1 = omega arith in
    let third : (end - 1 - k * size) / r ≡ (end - k * size - 1) / r = ap (λ n. n / r) swap in
    record {
      below = low;
      inside = omega (arith, most, sum, next, last, row, base, whole, less);
      same = omega (arith, first, second, same, third);
    }

pub few_regions : (size start k : ℕ) → 0 < size → size % 4096 ≡ 0 → k * size ≤ start → start < 1099511623680 → k < 268435455
few_regions size start k some pages low less =
    let least : 4096 ≤ size = omega (arith, some, pages) in
    let m : k * 4096 ≤ k * size = mul-le-mul_left k least in
    omega (arith, m, low, less)

pub is_want : (c : Config) (number file k len start end size : ℕ) → IsConfig c → number < 65536 → file < 4096 → start < end → end ≤ size → size ≤ 1099511623680
    → start / c.range ≡ (end - 1) / c.range → k ≡ start / c.region → len ≡ min c.region (size - k * c.region)
    → IsWant c (record { key = record { manifest = number; file = file; region = k }; len = len; sub = record { start = start - k * c.region; end = end - k * c.region } })
is_want c number file k len start end size is a b less inside most same own length_is =
    let fits = in_region c.range c.region start end is.range.0 is.region.0 is.divides less same in
    let at = subst (λ n. (n * c.region ≤ start) × (end ≤ n * c.region + c.region) × ((start - n * c.region) / c.range ≡ (end - n * c.region - 1) / c.range)) (sym own) (fits.below, fits.inside, fits.same) in
    record {
      key = (a, b, few_regions c.region start k is.region.0 is.region_pages at.0 (omega (arith, less, inside, most)));
      len = (omega (arith, length_is, at.0, less, inside, is.region.0), omega (arith, length_is));
      sub = (omega (arith, at.0, less), omega (arith, length_is, at.0, at.1, inside), at.2);
    }

pub tag_parts : (number file region : ℕ) → number < 65536 → file < 4096 → region < 268435455 → let key : RegionKey = record { manifest = number; file = file; region = region } in (manifest_of (tag_of key) ≡ number) × (file_of (tag_of key) ≡ file) × (part_of (tag_of key) ≡ region)
tag_parts number file region a b d = (omega arith, omega arith, omega arith)

pub has_length : (files : ℕ → ℕ → List ℕ) (number file region size : ℕ) → number < 65536 → file < 4096 → region < 268435455
    → length (region_bytes files size (tag_of (record { manifest = number; file = file; region = region }))) ≡ min size (length (files number file) - region * size)
has_length files number file region size a b d =
    let t = tag_parts number file region a b d in
    rw (t.0, t.1, t.2) (length-take size (drop (region * size) (files number file)) ∙ ap (min size) (length-drop (region * size) (files number file)))

pub has_length_of : (c : Config) (files : ℕ → ℕ → List ℕ) (number file k len size : ℕ) → number < 65536 → file < 4096 → length (files number file) ≡ size → size ≤ 1099511623680 → IsConfig c
    → (start : ℕ) → (k ≡ start / c.region) → start < size → len ≡ min c.region (size - k * c.region)
    → len ≡ length (region_bytes files c.region (tag_of (record { manifest = number; file = file; region = k })))
has_length_of c files number file k len size a b own most is start at less length_is =
    let low : start / c.region * c.region ≤ start = div-mul-le_self start c.region in
    let few : k < 268435455 = few_regions c.region start k is.region.0 is.region_pages (rw at low) (omega (arith, less, most)) in
    length_is ∙ ap (λ n. min c.region (n - k * c.region)) (sym own) ∙ sym (has_length files number file k c.region a b few)
