-- Counts of a reader's bytes, added up.
use Rattle.std.specs.Prelude.{◌≡◌, ◌<◌, ◌≤◌, ◌+◌, ◌-◌, ◌^◌, ℕ}
use Rattle.cache_reader.specs.declared.report.Report.{Report}

abbrev pub no_bytes : Report
no_bytes = record { hit = 0; fetched = 0; direct = 0 }

abbrev pub copied_bytes : ℕ → Report
copied_bytes n = record no_bytes { hit = n }

abbrev pub fetched_bytes : ℕ → Report
fetched_bytes n = record no_bytes { fetched = n }

abbrev pub direct_bytes : ℕ → Report
direct_bytes n = record no_bytes { direct = n }

-- the sums, however great
abbrev pub joined : Report → Report → Report
joined a b = record { hit = a.hit + b.hit; fetched = a.fetched + b.fetched; direct = a.direct + b.direct }

-- a count rose by n, and stops at the last value of a u64
pub record Grew (old new n : ℕ) : Type 0 where
  pub later : old ≤ new
  pub most : new ≤ old + n
  pub whole : new < 2 ^ 64 - 1 → new ≡ old + n

-- each count of a report rose by that of another
pub record Counted (old new by : Report) : Type 0 where
  pub hit : Grew old.hit new.hit by.hit
  pub fetched : Grew old.fetched new.fetched by.fetched
  pub direct : Grew old.direct new.direct by.direct
