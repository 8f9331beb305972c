-- A part that was entered: what its hold, its gap and its region have to do with the file.
use Rattle.std.proofs.Common.{arith, ◌≡◌, ◌<◌, ◌≤◌, ◌+◌, ◌-◌, ◌*◌, ◌/◌, ℕ, Option, Some, None, ap, sym, ◌∙◌, min}
use Rattle.std.specs.Prelude.{IfSome}
use Rattle.std.proofs.Math.Nat.{lt-div-mul-add, div-mul-le_self}
use Rattle.region_ranges.specs.declared.keys.Config.{Config}
use Rattle.region_ranges.specs.declared.ranges.ByteRange.{ByteRange}
use Rattle.region_ranges.specs.Keys.{tag_of, manifest_of}
use Rattle.region_cell.specs.Cells.{file_of, part_of}
use Rattle.cache_door.specs.declared.answers.Want.{Want}
use Rattle.cache_door.specs.declared.answers.Entered.TheVariants.{Held}
use Rattle.cache_door.specs.Doors.{IsWant, IsEntry, range_start, range_end}
use Rattle.cache_door.specs.Takes.{want_of}
use Rattle.cache_reader.proofs.Wants.{tag_parts}

-- a part in one of the ranges is no longer than a range
pub short_part : (r start end : ℕ) → 0 < r → start < end → start / r ≡ (end - 1) / r → end - start ≤ r
short_part r start end some less same =
    let low : start / r * r ≤ start = div-mul-le_self start r in
    let last : end - 1 < (end - 1) / r * r + r = lt-div-mul-add {a = end - 1} some in
    let row : (end - 1) / r * r ≡ start / r * r = ap (λ n. n * r) (sym same) in
    omega (arith, low, last, row, less)

-- the place of what is wanted: its key and its bytes, where `place` is the region's first byte, in a file of so many bytes
pub record Placed (c : Config) (m f length : ℕ) (p : ByteRange) (w : Want) (place : ℕ) : Type 0 where
  pub manifest : manifest_of (tag_of w.key) ≡ m
  pub file : file_of (tag_of w.key) ≡ f
  pub base : place ≡ part_of (tag_of w.key) * c.region
  pub least : w.sub.start < w.sub.end
  pub most : w.sub.end ≤ c.region
  pub size : w.sub.end - w.sub.start ≡ p.end - p.start
  pub at : p.start ≡ place + w.sub.start
  pub inside : place + w.sub.end ≤ length
  pub len : place + w.len ≤ length

pub placed : (c : Config) (m f length : ℕ) (p : ByteRange) (w : Want) → w ≡ want_of c.region m f length p → IsWant c w → p.start < p.end → p.end ≤ length → Placed c m f length p w (p.start - w.sub.start)
placed c m f length p w e is less inside =
    let k = p.start / c.region in
    let low : p.start / c.region * c.region ≤ p.start = div-mul-le_self p.start c.region in
    let start : w.sub.start ≡ p.start - p.start / c.region * c.region = ap (λ (v : Want). v.sub.start) e in
    let end : w.sub.end ≡ p.end - p.start / c.region * c.region = ap (λ (v : Want). v.sub.end) e in
    let len : w.len ≡ min c.region (length - p.start / c.region * c.region) = ap (λ (v : Want). v.len) e in
    let parts = tag_parts w.key.manifest w.key.file w.key.region is.key.0 is.key.1 is.key.2 in
    let region : part_of (tag_of w.key) ≡ p.start / c.region = parts.2 ∙ ap (λ (v : Want). v.key.region) e in
    let base : part_of (tag_of w.key) * c.region ≡ p.start / c.region * c.region = ap (λ n. n * c.region) region in
    record {
      manifest = parts.0 ∙ ap (λ (v : Want). v.key.manifest) e;
      file = parts.1 ∙ ap (λ (v : Want). v.key.file) e;
      base = omega (arith, low, start, base);
      least = is.sub.0;
      most = omega (arith, is.sub.1, is.len.1);
      size = omega (arith, start, end, low, less);
      at = omega (arith, start, low);
      inside = omega (arith, start, end, low, less, inside);
      len = omega (arith, start, len, low, less, inside);
    }

-- the gap of an entry lies in the file, and is no longer than a range
pub gap_inside : (c : Config) (size base r : ℕ) (w : Want) (gap : Option ByteRange) → IsEntry c w (Held r gap) → base + w.len ≤ size → IfSome gap (λ g. (g.start < g.end) × (base + g.end ≤ size))
gap_inside c size base r w None is fits = tt
gap_inside c size base r w (Some g) is fits = let in_range = is.1 in (in_range.0, omega (arith, in_range.3, fits))

pub gap_short : (c : Config) (r : ℕ) (w : Want) (gap : Option ByteRange) → IsEntry c w (Held r gap) → range_end gap - range_start gap ≤ c.range
gap_short c r w None is = omega arith
gap_short c r w (Some g) is = let in_range = is.1 in omega (arith, in_range.1, in_range.2)
