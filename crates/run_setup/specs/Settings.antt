-- The settings of the command `run`, in its words.
use Rattle.std.specs.Prelude.{ℕ, ◌*◌, ◌%◌, ◌==◌, ◌&&◌, ◌||◌, List, [], ◌∷◌, length, map, take, drop, filter_map, Bool, nat_lt, nat_le, is_some, Option, Some, None, option_and_then, if◌then◌else◌, codes}
use Rattle.std.specs.List.{list_all}
use Rattle.std.specs.Char.{is_ascii_digit, digit_value}
use Rattle.std.specs.Int.Digits.{number_from_digits}
use Rattle.std.specs.Str.{bytes_eq}
use Rattle.region_ranges.specs.declared.keys.Config.{Config}
use Rattle.run_setup.specs.declared.settings.RunSettings.{RunSettings}

-- ---- numbers

-- the value of decimal digits
abbrev pub value_of : List ℕ → Option ℕ
value_of s = if list_all is_ascii_digit s then Some (number_from_digits 10 (map digit_value s)) else None

-- 1 to 20 decimal digits, with a value that fits 64 bits
abbrev pub number_of : List ℕ → Option ℕ
number_of s =
    if nat_lt 0 (length s) && nat_le (length s) 20 && list_all is_ascii_digit s && nat_le (number_from_digits 10 (map digit_value s)) 18446744073709551615
    then Some (number_from_digits 10 (map digit_value s)) else None

-- ---- the words

-- what stands behind a key in a word that begins with it
abbrev pub behind_key : List ℕ → List ℕ → Option (List ℕ)
behind_key key word = if bytes_eq (take (length key) word) key then Some (drop (length key) word) else None

-- the word is a setting: it begins with one of the four keys
abbrev pub is_setting : List ℕ → Bool
is_setting word =
    is_some (behind_key (codes "workers=") word) || is_some (behind_key (codes "regions=") word)
    || is_some (behind_key (codes "region=") word) || is_some (behind_key (codes "range=") word)

-- what stands behind a key in all words that begin with it
abbrev pub values : List ℕ → List (List ℕ) → List (List ℕ)
values key words = filter_map (behind_key key) words

-- a setting stands at most once; one that does not stand is the default
abbrev pub at_most_one : ℕ → List (List ℕ) → Option ℕ
at_most_one default [] = Some default
at_most_one default (v ∷ []) = number_of v
at_most_one default (v ∷ w ∷ vs) = None

infixl 10 ◌>>=◌
abbrev pub ◌>>=◌ : {A B : Type 0} → Option A → (A → Option B) → Option B
o >>= f = option_and_then f o

-- the four numbers, with their defaults: one worker, 4 regions of 16 MiB, and ranges as long as the regions
abbrev pub numbers : List (List ℕ) → Option RunSettings
numbers words = do
  workers ← at_most_one 1 (values (codes "workers=") words)
  regions ← at_most_one 4 (values (codes "regions=") words)
  region ← at_most_one 16777216 (values (codes "region=") words)
  range ← at_most_one region (values (codes "range=") words)
  Some (record { workers = workers; regions = regions; region = region; range = range })

-- 1 to 8 workers; 1 to 512 regions of whole pages of 4,096 bytes, of at most 16 MiB each and 1 GiB in all; ranges of whole pages that divide a region
abbrev pub in_limits : RunSettings → Bool
in_limits s =
    (nat_lt 0 s.workers && nat_le s.workers 8)
    && (nat_lt 0 s.regions && nat_le s.regions 512)
    && (nat_lt 0 s.region && nat_le s.region 16777216 && (s.region % 4096 == 0))
    && (nat_lt 0 s.range && (s.range % 4096 == 0) && (s.region % s.range == 0))
    && nat_le (s.regions * s.region) 1073741824

abbrev pub within_limits : RunSettings → Option RunSettings
within_limits s = if in_limits s then Some s else None

-- the settings that words behind `run` ask for: each is a setting, in any order and each at most once, within the limits
abbrev pub settings : List (List ℕ) → Option RunSettings
settings words = if list_all is_setting words then option_and_then within_limits (numbers words) else None

-- what a cache with these settings is set up by: 100 frequencies, and 60 seconds between two promotions of a region
abbrev pub config_of : RunSettings → Config
config_of s = record { regions = s.regions; region = s.region; range = s.range; max_freq = 100; min_delta = 60000 }
