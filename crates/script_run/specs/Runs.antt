-- How a run may end, and what holds of it then.
use Rattle.std.specs.Prelude.{ℕ, ◌≡◌, ◌≤◌, ◌<◌, List, [], ◌∷◌, ◌++◌, length, take, slice_get, true, false, IsTrue, Option, Some, option_map}
use Rattle.byte_text.specs.Counts.{Rose}
use Rattle.cache_outside.specs.Sinks.{SinkView, behind}
use Rattle.cache_outside.specs.Sources.{SourceView}
use Rattle.cache_outside.specs.Clocks.{ClockView}
use Rattle.cache_door.specs.Machine.{State}
use Rattle.cache_door.specs.Takes.{Once}
use Rattle.cache_door.specs.Cores.{CoreView, state_of, all_faults}
use Rattle.mount_script.specs.declared.command.Command.TheVariants.{Stats}
use Rattle.mount_script.specs.declared.command.Line.{Line}
use Rattle.mount_script.specs.declared.reply.Reply.{Reply}
use Rattle.script_run.specs.Mounting.{nothing_mounted}
use Rattle.script_run.specs.Allowed.{RunSetting, AllowedRun, run_faults, Bears, is_mark, is_memory, some_reply}
use Rattle.script_run.specs.Texts.{run_text}
use Rattle.script_run.specs.Clocks.{times_asked}
use Rattle.script_run.specs.Counters.{CoreNumbers, numbers_of, StatsRise, StatsBelow, LastStats, no_counts, all_replies}
use Rattle.script_run.specs.Lines.{Cached}
use Rattle.script_run.specs.Bytes.{BlocksTook, StatsCounted, OfLast}
use Rattle.script_run.specs.Blocks.{IsFirst, TimesTold}
use Rattle.script_run.specs.Room.{HasRoom, all_mounted, some_clear}
use Rattle.script_run.specs.RunTakes.{run_takes, some_search, stats_behind}
use Rattle.script_run.specs.declared.ended.Ended.{Ended}
use Rattle.script_run.specs.declared.ended.Ended.TheVariants.{Done, SinkFault, NoMemory}

-- what is seen of a run's source, sink and clock at one moment
pub record Outside : Type 0 where
  pub source : SourceView
  pub sink : SinkView
  pub clock : ClockView

abbrev pub outside : SourceView → SinkView → ClockView → Outside
outside source sink clock = record { source = source; sink = sink; clock = clock }

-- a front of this text was written
abbrev pub IsFront : Option (List ℕ) → Option (List ℕ) → List ℕ → Type 0
IsFront before now text = (n : ℕ) × (now ≡ behind before (take n text))

-- `rest` are the blocks that did not run
abbrev pub EndsBy : List (List Line) → List (List Line) → List (List Reply) → SinkView → SinkView → Ended → Type 0
EndsBy blocks rest replies before now (Done marked) =
    (rest ≡ []) × (now.written ≡ behind before.written (run_text blocks replies))
    × (marked ≡ some_reply is_mark replies) × (some_reply is_memory replies ≡ false)
EndsBy blocks rest replies before now SinkFault = IsFront before.written now.written (run_text blocks replies) × Rose before.faults now.faults
EndsBy blocks rest replies before now NoMemory = IsFront before.written now.written (run_text blocks replies)

abbrev pub IsDone : Ended → Type 0
IsDone (Done marked) = Unit {0}
IsDone SinkFault = ⊥
IsDone NoMemory = ⊥

-- the `stats` replies of a run, by the core's numbers at its end
pub record HasStats (end : CoreNumbers) (replies : List Reply) (ended : Ended) : Type 0 where
  pub rise : StatsRise no_counts replies
  pub below : StatsBelow end replies
  pub last : IsDone ended → LastStats end replies

-- ---- the bytes that a run takes

-- what is seen of a run's core: its state when the run began, how often its frames had failed then and have at the end, and its numbers at the end
pub record CoreSeen : Type 0 where
  pub first : State
  pub faults_before : ℕ
  pub faults_now : ℕ
  pub numbers : CoreNumbers

abbrev pub core_seen : CoreView → CoreView → CoreSeen
core_seen v w = record { first = state_of v; faults_before = all_faults v.cells; faults_now = all_faults w.cells; numbers = numbers_of w.policy }

-- no line wanted memory, and no count of failures rose: neither the source's nor the frames'
pub record IsCalm (replies : List (List Reply)) (source_before source_now frames_before frames_now : ℕ) : Type 0 where
  pub memory : some_reply is_memory replies ≡ false
  pub source : Rose source_before source_now → ⊥
  pub frames : Rose frames_before frames_now → ⊥

-- What a `stats` line was answered behind these blocks. Where all was calm up to the moment of its answer, none of the blocks searches, and the least
-- interval is at least 1, it is what the steps of the state say.
pub record StatsTold (e : Cached) (times : List ℕ) (front : List (List Line)) (replies : List (List Reply)) (given : Reply) (x y : Outside) (core : CoreSeen) : Type 0 where
  pub source_faults : ℕ
  pub frame_faults : ℕ
  pub source : (x.source.faults ≤ source_faults) × (source_faults ≤ y.source.faults)
  pub frames : (core.faults_before ≤ frame_faults) × (frame_faults ≤ core.faults_now)
  pub exact : IsCalm replies x.source.faults source_faults core.faults_before frame_faults → some_search front ≡ false → 0 < e.config.min_delta
      → given ≡ stats_behind (run_takes e times front replies core.first)

-- What a run by one worker took of parts. Where all was calm, and the last reply is one to `stats`, the bytes are as many as it says. Where besides no line
-- searches and the least interval is at least 1, they are just those of the steps of the state, from the first state on, at the times of the clock. Where all was
-- calm, no line clears or unmounts, and the cache has room for all that was mounted, no byte was taken twice, by whatever line.
pub record RunTook (e : Cached) (blocks : List (List Line)) (replies : List (List Reply)) (x y : Outside) (core : CoreSeen) : Type 0 where
  pub places : List (ℕ × ℕ)
  pub taken : BlocksTook e.blobs blocks x.source y.source places
  pub counted : IsCalm replies x.source.faults y.source.faults core.faults_before core.faults_now → OfLast (StatsCounted (length places)) (all_replies replies)
  pub times : List ℕ
  pub told : TimesTold (length blocks) x.clock.times times
  pub first : IsFirst e.config core.first
  pub exact : IsCalm replies x.source.faults y.source.faults core.faults_before core.faults_now → some_search blocks ≡ false → 0 < e.config.min_delta
      → BlocksTook e.blobs blocks x.source y.source (run_takes e times blocks replies core.first).places
  pub once : IsCalm replies x.source.faults y.source.faults core.faults_before core.faults_now → some_clear blocks ≡ false → HasRoom e (all_mounted e.blobs blocks replies)
      → (places : List (ℕ × ℕ)) × BlocksTook e.blobs blocks x.source y.source places × Once (λ blob. true) places
  pub stats : (i : ℕ) (l : Line) (given : Reply) → slice_get blocks i ≡ Some (l ∷ []) → l.command ≡ Stats → slice_get replies i ≡ Some (given ∷ [])
      → StatsTold e times (take i blocks) (take i replies) given x y core

-- ---- the run

-- A run of a script by one worker: the first blocks ran, each of their lines has an allowed reply, the replies' text was written as the
-- ending says, the source's count bears the faults, and the clock was asked once a block.
pub record IsRun (e : Cached) (s : RunSetting) (script : List (List Line)) (x y : Outside) (core : CoreSeen) (ended : Ended) : Type 0 where
  pub blocks : List (List Line)
  pub rest : List (List Line)
  pub all : script ≡ blocks ++ rest
  pub replies : List (List Reply)
  pub allowed : AllowedRun s nothing_mounted blocks replies
  pub bears : Bears (run_faults 1 0 replies) x.source.faults y.source.faults
  pub identity : y.source.identity ≡ x.source.identity
  pub ends : EndsBy blocks rest replies x.sink y.sink ended
  pub clock : y.clock.times ≡ option_map (times_asked (length blocks)) x.clock.times
  pub stats : HasStats core.numbers (all_replies replies) ended
  pub took : IsTrue e.tells → RunTook e blocks replies x y core
