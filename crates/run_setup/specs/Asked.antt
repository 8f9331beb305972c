-- What the program's own answer on the words says.
use Rattle.std.specs.Prelude.{◌≡◌, true, Option, Some, None}
use Rattle.run_setup.specs.Settings.{in_limits}
use Rattle.run_setup.specs.MakeSettings.{can_be_made}
use Rattle.run_setup.specs.Words.{Command, term, run, make}
use Rattle.run_setup.specs.declared.asked.Asked.{Asked}
use Rattle.run_setup.specs.declared.asked.Asked.TheVariants as asked

-- what is asked for, without where the words lie in memory
abbrev pub view_of : Asked → Command
view_of (asked.Term m f t) = term (record { manifest = m.now; field = f.now; term = t.now })
view_of (asked.Run s) = run s
view_of (asked.Make m) = make m

-- settings that were read keep their limits
abbrev pub InLimits : Option Asked → Type 0
InLimits None = Unit {0}
InLimits (Some (asked.Term m f t)) = Unit {0}
InLimits (Some (asked.Run s)) = in_limits s ≡ true
InLimits (Some (asked.Make m)) = can_be_made m ≡ true
