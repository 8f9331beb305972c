-- A call of the program: how it may end, and what holds then.
use Rattle.std.specs.Prelude.{ℕ, ◌≡◌, ◌&&◌, List, [], ◌∷◌, length, Bool, true, not, IsTrue, Option, Some, None, Ok, Err, if◌then◌else◌, max, ◌≤◌, ◌<◌}
use Rattle.byte_text.specs.Counts.{Rose}
use Rattle.cache_outside.specs.Listing.{Listing}
use Rattle.cache_outside.specs.Sources.{SourceView}
use Rattle.cache_outside.specs.Texts.{TextView}
use Rattle.cache_outside.specs.Frames.{MakerView}
use Rattle.cache_outside.specs.Sinks.{SinkView}
use Rattle.cache_outside.specs.Clocks.{ClockView}
use Rattle.mount_script.specs.Scripts.{script}
use Rattle.mount_script.specs.declared.command.Line.{Line}
use Rattle.mount_script.specs.declared.error.ScriptError.{ScriptError}
use Rattle.run_setup.specs.declared.settings.RunSettings.{RunSettings}
use Rattle.run_setup.specs.declared.make_settings.MakeSettings.{MakeSettings}
use Rattle.run_setup.specs.Texts.{IsRead}
use Rattle.run_setup.specs.Words.{Command, term, run, make, command, has_sources}
use Rattle.run_setup.specs.Settings.{config_of}
use Rattle.script_run.specs.Blocks.{alone}
use Rattle.script_run.specs.Runs.{IsRun, CoreSeen, outside}
use Rattle.script_run.specs.declared.ended.Ended.{Ended}
use Rattle.cache_table.specs.Views.{PassView}
use Rattle.script_run.specs.Lines.{cached}
use Rattle.shared_run.specs.Blocks.{several}
use Rattle.shared_run.specs.Runs.{IsSharedRun, outsides}
use Rattle.mount_tool.specs.Replies.{usage_text, error_text, run_status}
use Rattle.mount_tool.specs.Runs.{IsNoted, IsTermRun, IsOverFrames}
use Rattle.mount_tool.specs.Makes.{IsMakeRun, IsMade}

-- ---- what a call is handed

-- what is seen, at one moment, of all that a call is handed: the source of the script's text, the maker of frames, the
-- sink, the clock, and the sources of blobs
pub record World : Type 0 where
  pub text : TextView
  pub maker : MakerView
  pub sink : SinkView
  pub clock : ClockView
  pub sources : List SourceView

abbrev pub world : TextView → MakerView → SinkView → ClockView → List SourceView → World
world text maker sink clock sources = record { text = text; maker = maker; sink = sink; clock = clock; sources = sources }

-- the first source, where there is one
abbrev pub first_source : List SourceView → SourceView
first_source [] = record { identity = 0; faults = 0; reads = None }
first_source (s ∷ ss) = s

-- nothing was written, no blob was read, and the clock was not asked
pub record IsUnrun (x y : World) : Type 0 where
  pub sink : y.sink ≡ x.sink
  pub clock : y.clock ≡ x.clock
  pub sources : y.sources ≡ x.sources

-- all but the sink is as before
pub record OnlyWrote (x y : World) : Type 0 where
  pub text : y.text ≡ x.text
  pub maker : y.maker ≡ x.maker
  pub clock : y.clock ≡ x.clock
  pub sources : y.sources ≡ x.sources

-- ---- the command `run`

pub data RunEnding : Type 0 where
  unread : RunEnding  -- the source of the script's text failed
  no_script : List ℕ → ScriptError → RunEnding  -- this text is no script
  no_frame : List ℕ → List (List Line) → RunEnding  -- the maker of frames failed
  no_room : RunEnding  -- memory was wanted before the first block
  ran : List ℕ → List (List Line) → Bool → CoreSeen → Ended → RunEnding  -- one worker ran the script, over frames of which it is known whether they tell
  shared : List ℕ → List (List Line) → Bool → PassView → PassView → Ended → RunEnding  -- several workers did, through a cache that they share

-- the text was read to its end, or to the first byte that a script may not have, and is the script of these blocks
abbrev pub IsScriptText : World → List ℕ → List (List Line) → Type 0
IsScriptText x t blocks = IsRead x.text.left t × (script t ≡ Ok blocks)

abbrev pub RunEnds : Bool → Listing → RunSettings → World → World → RunEnding → ℕ → Type 0
RunEnds tells blobs s x y unread status = (status ≡ 4) × Rose x.text.faults y.text.faults × IsUnrun x y
RunEnds tells blobs s x y (no_script t e) status =
    IsRead x.text.left t × (script t ≡ Err e) × IsNoted x.sink y.sink (error_text e) 3 status × (y.clock ≡ x.clock) × (y.sources ≡ x.sources)
RunEnds tells blobs s x y (no_frame t blocks) status =
    IsScriptText x t blocks × (status ≡ 7) × Rose x.maker.faults y.maker.faults × IsUnrun x y
RunEnds tells blobs s x y no_room status = (status ≡ 6) × IsUnrun x y
RunEnds tells blobs s x y (ran t blocks told core ended) status =
    IsScriptText x t blocks × (status ≡ run_status ended) × IsOverFrames x.maker told core
    × IsRun (cached tells blobs (config_of s)) (alone (tells && told) blobs s.regions) blocks
    (outside (first_source x.sources) x.sink x.clock) (outside (first_source y.sources) y.sink y.clock) core ended
    × (s.workers ≤ 1)
RunEnds tells blobs s x y (shared t blocks told first last ended) status =
    IsScriptText x t blocks × (status ≡ run_status ended) × (IsTrue x.maker.tells → told ≡ true)
    × IsSharedRun (cached tells blobs (config_of s)) (several (tells && told) blobs s.workers s.regions) blocks
    (outsides x.sources x.sink x.clock) (outsides y.sources y.sink y.clock) first last ended
    × (1 < s.workers)

-- a run of a script: how it ended, and what holds of that ending
pub record IsScriptRun (tells : Bool) (blobs : Listing) (s : RunSettings) (x y : World) (status : ℕ) : Type 0 where
  pub ending : RunEnding
  pub ends : RunEnds tells blobs s x y ending status

-- ---- the whole call

-- the words are not in form, or there are too few sources
abbrev pub refuses : ℕ → Option Command → Bool
refuses sources c = not (has_sources sources c)

-- how many sources are read at most: as many as workers run a script, and else the first
abbrev pub readers : Option Command → ℕ
readers (Some (run s)) = max 1 s.workers
readers _ = 1

abbrev pub is_refused : List (List ℕ) → ℕ → Bool
is_refused words sources = refuses sources (command words)

abbrev pub taken_on : ℕ → Option Command → Option Command
taken_on sources c = if refuses sources c then None else c

-- what is done, where the words are not refused
abbrev pub accepted : List (List ℕ) → ℕ → Option Command
accepted words sources = taken_on sources (command words)

abbrev pub CallEnds : Bool → Listing → Option Command → World → World → ℕ → Type 0
CallEnds tells blobs None x y status = IsNoted x.sink y.sink usage_text 2 status × OnlyWrote x y
CallEnds tells blobs (Some (term t)) x y status =
    IsTermRun tells blobs t (first_source x.sources).faults (first_source y.sources).faults x.sink y.sink status
    × (y.text ≡ x.text) × (y.maker ≡ x.maker) × (y.clock ≡ x.clock)
CallEnds tells blobs (Some (run s)) x y status = IsScriptRun tells blobs s x y status
CallEnds tells blobs (Some (make m)) x y status =
    IsMakeRun m x.maker.faults y.maker.faults x.sink y.sink x.clock y.clock status × (y.text ≡ x.text) × (y.sources ≡ x.sources)

-- A call with these words, over an archive that tells or not: what is done by the words that are accepted, and how it ends.
abbrev pub IsCall : Bool → Listing → List (List ℕ) → World → World → ℕ → Type 0
IsCall tells blobs words x y status = CallEnds tells blobs (accepted words (length x.sources)) x y status

-- ---- completeness

-- where the words ask for `make`, and neither the maker of frames nor the sink failed, the line was written whole, or memory was wanted
abbrev pub MakeIsWhole : Type 0
MakeIsWhole = (tells : Bool) (blobs : Listing) (words : List (List ℕ)) (m : MakeSettings) (x y : World) (status : ℕ)
    → accepted words (length x.sources) ≡ Some (make m) → IsCall tells blobs words x y status
    → (Rose x.maker.faults y.maker.faults → ⊥) → (Rose x.sink.faults y.sink.faults → ⊥) → IsMade m x.sink y.sink status
