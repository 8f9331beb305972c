-- The settings of a cache that the words give.
use Rattle.std.proofs.Common.{◌≡◌, ℕ, ◌<◌, ◌≤◌, ◌%◌, ◌*◌, ◌⊎◌, inl, inr, true, arith, sym, ◌∙◌}
use Rattle.std.proofs.lemmas.Bool.{and_parts, leb-true, eqb-true}
use Rattle.std.proofs.lemmas.Bool.Decides.{nat_tests}
use Rattle.std.proofs.lemmas.Bool.{cases_lt}
use Rattle.std.specs.Prelude.{nat_lt}
use Rattle.std.proofs.Math.Nat.{mod-eq_of_lt}
use Rattle.region_ranges.specs.Keys.{IsConfig}
use Rattle.run_setup.specs.Settings.{in_limits, config_of}
use Rattle.run_setup.specs.declared.settings.RunSettings.{RunSettings}

below : (m n : ℕ) → nat_lt m n ≡ true → m < n
below m n h = grind (arith, nat_tests)

-- a number that divides a positive one is no greater
divisor_by : (n d : ℕ) → 0 < n → n % d ≡ 0 → (n < d) ⊎ (d ≤ n) → d ≤ n
divisor_by n d some divides (inl above) = let e : n ≡ 0 = sym (mod-eq_of_lt above) ∙ divides in absurd (omega (arith, e, some))
divisor_by n d some divides (inr least) = least

-- the limits of the words are those of a cache
pub config_good : (s : RunSettings) → in_limits s ≡ true → IsConfig (config_of s)
config_good s is =
    let first = and_parts _ _ is in
    let second = and_parts _ _ first.0 in
    let third = and_parts _ _ second.0 in
    let fourth = and_parts _ _ third.0 in
    let regions = and_parts _ _ fourth.1 in
    let region_pages = and_parts _ _ third.1 in
    let region = and_parts _ _ region_pages.0 in
    let range_divides = and_parts _ _ second.1 in
    let range = and_parts _ _ range_divides.0 in
    let some_regions : 0 < s.regions = below 0 s.regions regions.0 in
    let most_regions : s.regions ≤ 512 = leb-true s.regions 512 regions.1 in
    let some_region : 0 < s.region = below 0 s.region region.0 in
    let most_region : s.region ≤ 16777216 = leb-true s.region 16777216 region.1 in
    let some_range : 0 < s.range = below 0 s.range range.0 in
    let divides : s.region % s.range ≡ 0 = eqb-true (s.region % s.range) 0 range_divides.1 in
    let fits : s.range ≤ s.region = divisor_by s.region s.range some_region divides (cases_lt s.region s.range) in
    let total : s.regions * s.region ≤ 1073741824 = leb-true (s.regions * s.region) 1073741824 first.1 in
    record {
      regions = (some_regions, omega (arith, most_regions));
      region = (some_region, omega (arith, most_region));
      range = (some_range, omega (arith, most_region, fits));
      region_pages = eqb-true (s.region % 4096) 0 region_pages.1;
      range_pages = eqb-true (s.range % 4096) 0 range.1;
      divides = divides;
      total = total;
      max_freq = omega arith;
    }
