-- What reads through any door take of the source, against the counts of the door's work.
use Rattle.std.specs.Prelude.{◌≡◌, ◌<◌, ◌≤◌, ◌+◌, ◌*◌, ◌^◌, ◌-◌, ℕ}
use Rattle.byte_text.specs.Counts.{Rose}
use Rattle.cache_door.specs.declared.work.Work.{Work}
use Rattle.cache_reader.specs.declared.report.Report.{Report}
use Rattle.cache_reader.specs.Reports.{Grew}

-- n bytes were taken: at least the rise of `stored`, and above it by at most twice the range for each one by which `turned_away` rose,
-- where neither stands at its last value
abbrev pub Bounded : ℕ → Work → Work → ℕ → Type 0
Bounded range old new n =
    new.stored < 2 ^ 64 - 1 → new.turned_away < 2 ^ 64 - 1
    → (new.stored ≤ old.stored + n) × (old.stored + n + 2 * range * old.turned_away ≤ new.stored + 2 * range * new.turned_away)

-- `stored` rose by what was fetched; where bytes were read directly `turned_away` rose, or stands at its last value
pub record Worked (counts : Report) (old new : Work) : Type 0 where
  pub stored : Grew old.stored new.stored counts.fetched
  pub turned : old.turned_away ≤ new.turned_away
  pub direct : 0 < counts.direct → Rose old.turned_away new.turned_away
  pub decays : new.decays ≡ old.decays
  pub clears : new.clears ≡ old.clears
