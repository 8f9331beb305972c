-- The command `make`: what is made of a number is searched, and one line says what there is and what was found.
use Rattle.std.specs.Prelude.{ℕ, ◌≡◌, ◌≤◌, ◌<◌, ◌⊎◌, List, [], ◌++◌, length, false, codes}
use Rattle.std.specs.Fmt.{decimal}
use Rattle.byte_text.specs.Counts.{Rose}
use Rattle.cache_outside.specs.Clocks.{ClockView}
use Rattle.cache_outside.specs.Sinks.{SinkView, behind}
use Rattle.run_setup.specs.declared.make_settings.MakeSettings.{MakeSettings}
use Rattle.shard_maker.specs.MadeRows.{made_rows}
use Rattle.shard_maker.specs.Searches.{made_script}
use Rattle.run_setup.specs.Settings.{config_of}
use Rattle.script_run.specs.Blocks.{alone}
use Rattle.script_run.specs.Runs.{IsRun, CoreSeen, Outside}
use Rattle.script_run.specs.declared.ended.Ended.{Ended}
use Rattle.script_run.specs.declared.ended.Ended.TheVariants.{Done, SinkFault, NoMemory}
use Rattle.cache_table.specs.Views.{PassView}
use Rattle.script_run.specs.Lines.{cached}
use Rattle.shared_run.specs.Blocks.{several}
use Rattle.shared_run.specs.Runs.{IsSharedRun, Outsides}
use Rattle.mount_tool.specs.Runs.{IsWritten}

-- ---- the line

-- documents, terms and postings; then what all searches found, and the sum over all hits shown of the document's number plus 1
abbrev pub summary_text : ℕ → ℕ → ℕ → ℕ → ℕ → List ℕ
summary_text docs terms postings total sum =
    codes "made docs " ++ (decimal docs ++ (codes " terms " ++ (decimal terms ++ (codes " postings " ++ (decimal postings
    ++ (codes " total " ++ (decimal total ++ (codes " sum " ++ (decimal sum ++ codes "\n")))))))))

-- how many pairs of a term and a document there are: those that have 0 drawn
abbrev pub postings_of : MakeSettings → ℕ
postings_of m = length (made_rows m.seed m.docs m.terms)

-- the line of what the words ask for
abbrev pub made_line : MakeSettings → ℕ → ℕ → List ℕ
made_line m total sum = summary_text m.docs m.terms (postings_of m) total sum

-- ---- the run

pub data MakeEnding : Type 0 where
  without_frames : MakeEnding  -- the maker of frames failed
  without_room : MakeEnding  -- memory was wanted before the first line
  searched : Outside → Outside → CoreSeen → Ended → ℕ → ℕ → MakeEnding  -- one worker ran the script over a source and a sink of its own; and two sums
  searched_by_several : Outsides → Outsides → PassView → PassView → Ended → ℕ → ℕ → MakeEnding  -- several workers did, over sources of their own; and two sums

-- the line was written where the script ran to its end and no reply was `no memory`; nothing was where memory was wanted
abbrev pub SearchesEnd : MakeSettings → SinkView → SinkView → ℕ → ℕ → Ended → ℕ → Type 0
SearchesEnd m k l total sum (Done marked) status = IsWritten k l (made_line m total sum) 0 status
SearchesEnd m k l total sum SinkFault status = ⊥
SearchesEnd m k l total sum NoMemory status = (status ≡ 6) × (l ≡ k)

-- by how often the maker of frames had failed before and had then, and by the sink and the clock before and then
abbrev pub MakeEnds : MakeSettings → ℕ → ℕ → SinkView → SinkView → ClockView → ClockView → MakeEnding → ℕ → Type 0
MakeEnds m faults now k l c d without_frames status = (status ≡ 7) × Rose faults now × (l ≡ k) × (d ≡ c)
MakeEnds m faults now k l c d without_room status = (status ≡ 6) × (l ≡ k) × (d ≡ c)
MakeEnds m faults now k l c d (searched a b core ended total sum) status =
    IsRun (cached false [] (config_of m.run)) (alone false [] m.run.regions) (made_script m.seed m.docs m.terms) a b core ended
    × (a.clock ≡ c) × (b.clock ≡ d) × SearchesEnd m k l total sum ended status × (m.run.workers ≤ 1)
MakeEnds m faults now k l c d (searched_by_several a b first last ended total sum) status =
    IsSharedRun (cached false [] (config_of m.run)) (several false [] m.run.workers m.run.regions) (made_script m.seed m.docs m.terms) a b first last ended
    × (a.clock ≡ c) × (b.clock ≡ d) × SearchesEnd m k l total sum ended status × (1 < m.run.workers)

-- a run of `make`, and how it ended
pub record IsMakeRun (m : MakeSettings) (faults now : ℕ) (k l : SinkView) (c d : ClockView) (status : ℕ) : Type 0 where
  pub ending : MakeEnding
  pub ends : MakeEnds m faults now k l c d ending status

-- the line was written whole, with status 0; or memory was wanted, with status 6
abbrev pub IsMade : MakeSettings → SinkView → SinkView → ℕ → Type 0
IsMade m k l status = ((status ≡ 0) × ((total : ℕ) × (sum : ℕ) × (l.written ≡ behind k.written (made_line m total sum)))) ⊎ (status ≡ 6)
