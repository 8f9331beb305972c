-- The settings of the command `make`, in its words.
use Rattle.std.specs.Prelude.{ℕ, ◌*◌, ◌&&◌, ◌||◌, List, [], ◌∷◌, Bool, nat_lt, nat_le, is_some, Option, Some, None, option_and_then, if◌then◌else◌, codes}
use Rattle.std.specs.List.{list_all}
use Rattle.run_setup.specs.Settings.{behind_key, is_setting, values, number_of, numbers, in_limits, ◌>>=◌}
use Rattle.run_setup.specs.declared.make_settings.MakeSettings.{MakeSettings}

-- the word is a setting: it begins with one of three keys of its own, or with one of the keys of `run`
abbrev pub is_make_setting : List ℕ → Bool
is_make_setting word =
    is_some (behind_key (codes "seed=") word) || is_some (behind_key (codes "docs=") word)
    || is_some (behind_key (codes "terms=") word) || is_setting word

-- a setting stands exactly once
abbrev pub exactly_one : List (List ℕ) → Option ℕ
exactly_one (v ∷ []) = number_of v
exactly_one vs = None

-- the seed, the documents and the terms, and the numbers of `run` with their defaults
abbrev pub make_numbers : List (List ℕ) → Option MakeSettings
make_numbers words = do
  seed ← exactly_one (values (codes "seed=") words)
  docs ← exactly_one (values (codes "docs=") words)
  terms ← exactly_one (values (codes "terms=") words)
  run ← numbers words
  Some (record { seed = seed; docs = docs; terms = terms; run = run })

-- 1 to 100,000 documents and as many terms, of which the product is at most 4,000,000; and the limits of `run`
abbrev pub can_be_made : MakeSettings → Bool
can_be_made m =
    in_limits m.run
    && (nat_lt 0 m.docs && nat_le m.docs 100000)
    && (nat_lt 0 m.terms && nat_le m.terms 100000)
    && nat_le (m.docs * m.terms) 4000000

abbrev pub made_within_limits : MakeSettings → Option MakeSettings
made_within_limits m = if can_be_made m then Some m else None

-- the settings that words behind `make` ask for: each is a setting, in any order, three of them exactly once and the others at most once, within the limits
abbrev pub make_settings : List (List ℕ) → Option MakeSettings
make_settings words = if list_all is_make_setting words then option_and_then made_within_limits (make_numbers words) else None
