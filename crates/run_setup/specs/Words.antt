-- The words of the command line, and what they ask for.
use Rattle.std.specs.Prelude.{ℕ, List, [], ◌∷◌, map, Bool, true, false, nat_lt, nat_le, Option, Some, None, option_map, String, string_bytes, codes, if◌then◌else◌}
use Rattle.std.specs.Str.{bytes_eq}
use Rattle.std.specs.declared.alloc.Global.{Global}
use Rattle.run_setup.specs.declared.settings.RunSettings.{RunSettings}
use Rattle.run_setup.specs.declared.make_settings.MakeSettings.{MakeSettings}
use Rattle.run_setup.specs.Settings.{settings}
use Rattle.run_setup.specs.MakeSettings.{make_settings}

-- the bytes of each word
abbrev pub texts : List (String Global) → List (List ℕ)
texts = map string_bytes

-- `term MANIFEST FIELD TERM`: a manifest's name, a field and a term, any bytes each
pub record Term : Type 0 where
  pub manifest : List ℕ
  pub field : List ℕ
  pub term : List ℕ

-- what words may ask for
pub data Command : Type 0 where
  term : Term → Command
  run : RunSettings → Command
  make : MakeSettings → Command

-- the words of `term`: these four
abbrev pub term_words : List (List ℕ) → Option Term
term_words (w ∷ m ∷ f ∷ t ∷ []) = if bytes_eq w (codes "term") then Some (record { manifest = m; field = f; term = t }) else None
term_words _ = None

-- the words of `run`: its settings stand behind it
abbrev pub run_words : List (List ℕ) → Option RunSettings
run_words (w ∷ ws) = if bytes_eq w (codes "run") then settings ws else None
run_words [] = None

-- the words of `make`: its settings stand behind it
abbrev pub make_words : List (List ℕ) → Option MakeSettings
make_words (w ∷ ws) = if bytes_eq w (codes "make") then make_settings ws else None
make_words [] = None

abbrev pub either_command : Option RunSettings → Option MakeSettings → Option Term → Option Command
either_command (Some s) m t = Some (run s)
either_command None (Some m) t = Some (make m)
either_command None None t = option_map term t

-- what words ask for that are in form, whatever the number of sources
abbrev pub command : List (List ℕ) → Option Command
command words = either_command (run_words words) (make_words words) (term_words words)

-- there are enough sources for it: one, and as many as workers; `make` needs none
abbrev pub has_sources : ℕ → Option Command → Bool
has_sources sources None = false
has_sources sources (Some (term t)) = nat_lt 0 sources
has_sources sources (Some (run s)) = nat_le s.workers sources
has_sources sources (Some (make m)) = true

-- it asks for 2 or more workers
abbrev pub asks : Option Command → Bool
asks None = false
asks (Some (term t)) = false
asks (Some (run s)) = nat_lt 1 s.workers
asks (Some (make m)) = nat_lt 1 m.run.workers
