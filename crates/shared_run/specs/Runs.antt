-- How a run of a script by several workers may end, and what holds of it then.
use Rattle.std.specs.Prelude.{ℕ, ◌≡◌, ◌≤◌, ◌+◌, ◌⊎◌, List, [], ◌∷◌, ◌++◌, length, map, count_by, sum_by, Bool, true, false, IsTrue, Option, option_map}
use Rattle.std.specs.List.{list_any}
use Rattle.byte_text.specs.Counts.{Rose}
use Rattle.cache_outside.specs.Clocks.{ClockView}
use Rattle.cache_outside.specs.Sinks.{SinkView, behind}
use Rattle.cache_outside.specs.Sources.{SourceView}
use Rattle.cache_reader.specs.Bounds.{Bounded}
use Rattle.cache_reader.specs.Reports.{Grew}
use Rattle.cache_table.specs.Calls.{marks}
use Rattle.cache_table.specs.Views.{PassView}
use Rattle.index_mounts.specs.Rosters.{RosterView}
use Rattle.mount_script.specs.declared.command.Line.{Line}
use Rattle.mount_script.specs.declared.reply.Reply.{Reply}
use Rattle.script_run.specs.Allowed.{RunSetting, AllowedBlock, AllowedRun, faults_of, run_faults, Bears, is_mark, is_memory, some_reply}
use Rattle.script_run.specs.Clocks.{times_asked}
use Rattle.script_run.specs.Counters.{all_replies}
use Rattle.script_run.specs.Lines.{Cached, is_mount}
use Rattle.script_run.specs.Mounting.{mounts_of, after_block, after_blocks, nothing_mounted}
use Rattle.script_run.specs.Runs.{EndsBy, IsDone}
use Rattle.script_run.specs.Texts.{run_text}
use Rattle.script_run.specs.declared.ended.Ended.{Ended}
use Rattle.script_run.specs.declared.ended.Ended.TheVariants.{NoMemory}
use Rattle.shared_run.specs.Blocks.{NoneUnmounted, AllTook, source_at}
use Rattle.shared_run.specs.Workers.{is_decayed, is_cleared}

-- what is seen of a run's sources, sink and clock at one moment
pub record Outsides : Type 0 where
  pub sources : List SourceView
  pub sink : SinkView
  pub clock : ClockView

abbrev pub outsides : List SourceView → SinkView → ClockView → Outsides
outsides sources sink clock = record { sources = sources; sink = sink; clock = clock }

-- a clock that was asked once for each of n blocks, and perhaps for one more, for which memory was wanted before its first line
pub record IsAsked (n : ℕ) (ended : Ended) (before now : Option (List ℕ)) : Type 0 where
  pub asked : ℕ
  pub times : now ≡ option_map (times_asked asked) before
  pub once : (asked ≡ n) ⊎ ((asked ≡ n + 1) × (ended ≡ NoMemory))

-- ---- bytes taken

-- The sources took n bytes of parts: none where this is the block of a `mount` line, which reads a manifest, and else those of all places that they took.
abbrev pub BytesTaken : Bool → List SourceView → List SourceView → ℕ → Type 0
BytesTaken true before now n = n ≡ 0
BytesTaken false before now n = (places : List (List (ℕ × ℕ))) × AllTook before now places × (n ≡ sum_by length places)

abbrev pub BlockTaken : List Line → List SourceView → List SourceView → ℕ → Type 0
BlockTaken block = BytesTaken (list_any (λ (l : Line). is_mount l.command) block)

-- the sources took n bytes of parts, block after block
abbrev pub AllTaken : List (List Line) → List SourceView → List SourceView → ℕ → Type 0
AllTaken [] before now n = (now ≡ before) × (n ≡ 0)
AllTaken (b ∷ bs) before now n = (mid : List SourceView) × (here : ℕ) × (rest : ℕ) × BlockTaken b before mid here × AllTaken bs mid now rest × (n ≡ here + rest)

-- no source's count of failures rose
abbrev pub NoneRose : List SourceView → List SourceView → Type 0
NoneRose before now = (i : ℕ) → Rose (source_at before i).faults (source_at now i).faults → ⊥

-- How many bytes of parts all sources took. Where no source's count of failures rose and no line wanted memory, they are as many as the counts of the
-- pass's work say: at least the rise of `stored`, and above it by at most twice the range for each one by which `turned_away` rose.
pub record RunTook (range : ℕ) (blocks : List (List Line)) (replies : List (List Reply)) (before now : List SourceView) (p q : PassView) : Type 0 where
  pub bytes : ℕ
  pub taken : AllTaken blocks before now bytes
  pub bound : list_any is_memory (all_replies replies) ≡ false → NoneRose before now → Bounded range p.work q.work bytes

-- ---- the run

-- A run of a script by several workers: the first blocks ran, each of their lines has an allowed reply, the replies' text was written as the
-- ending says, each source's count bears the faults of its lines, and the pass counted the decays and clears. Line k of a block, from 0, ran on
-- source k mod workers.
pub record IsSharedRun (e : Cached) (s : RunSetting) (script : List (List Line)) (x y : Outsides) (p q : PassView) (ended : Ended) : Type 0 where
  pub blocks : List (List Line)
  pub rest : List (List Line)
  pub all : script ≡ blocks ++ rest
  pub replies : List (List Reply)
  pub allowed : AllowedRun s nothing_mounted blocks replies
  pub bears : (i : ℕ) → Bears (run_faults s.workers i replies) (source_at x.sources i).faults (source_at y.sources i).faults
  pub identities : map (λ a. a.identity) y.sources ≡ map (λ a. a.identity) x.sources
  pub ends : EndsBy blocks rest replies x.sink y.sink ended
  pub clock : IsAsked (length blocks) ended x.clock.times y.clock.times
  pub decays : IsDone ended → Grew p.work.decays q.work.decays (count_by is_decayed (all_replies replies))
  pub clears : IsDone ended → Grew p.work.clears q.work.clears (count_by is_cleared (all_replies replies))
  pub took : IsTrue e.tells → RunTook e.config.range blocks replies x.sources y.sources p q

-- ---- a run so far

-- neither a mount of the roster nor one to come was unmounted through the pass
pub record NoneGone (r : RosterView) (p : PassView) : Type 0 where
  pub names : NoneUnmounted r p
  pub numbers : (n : ℕ) → r.made ≤ n → marks p.view.unmounted n ≡ false

-- how many bytes of parts a block took
pub record BlockTakes (range : ℕ) (block : List Line) (replies : List Reply) (before now : List SourceView) (p q : PassView) : Type 0 where
  pub bytes : ℕ
  pub taken : BlockTaken block before now bytes
  pub bound : list_any is_memory replies ≡ false → NoneRose before now → Bounded range p.work q.work bytes

-- A block ran: a roster went from r to q, the sources from these to those, and a pass from p to t.
pub record BlockRan (e : Cached) (s : RunSetting) (r q : RosterView) (block : List Line) (replies : List Reply) (before now : List SourceView) (p t : PassView) : Type 0 where
  pub allowed : AllowedBlock s (mounts_of r) block replies
  pub mounts : IsTrue s.tells → mounts_of q ≡ after_block s.blobs block replies (mounts_of r)
  pub bears : (i : ℕ) → Bears (faults_of s.workers i 0 replies) (source_at before i).faults (source_at now i).faults
  pub faults : (i : ℕ) → (source_at before i).faults ≤ (source_at now i).faults
  pub identities : map (λ a. a.identity) now ≡ map (λ a. a.identity) before
  pub decays : Grew p.work.decays t.work.decays (count_by is_decayed replies)
  pub clears : Grew p.work.clears t.work.clears (count_by is_cleared replies)
  pub stored : p.work.stored ≤ t.work.stored
  pub turned : p.work.turned_away ≤ t.work.turned_away
  pub took : IsTrue e.tells → BlockTakes e.config.range block replies before now p t
  pub none : NoneGone q t

-- Some first blocks of a script ran: the sources went from these to those, the coming times of a clock from t to u, and a pass from p to q; this is
-- the roster now.
pub record RunSoFar (e : Cached) (s : RunSetting) (done : List (List Line)) (replies : List (List Reply)) (r : RosterView) (before now : List SourceView) (t u : Option (List ℕ)) (p q : PassView) : Type 0 where
  pub many : length replies ≡ length done
  pub allowed : AllowedRun s nothing_mounted done replies
  pub mounts : IsTrue s.tells → mounts_of r ≡ after_blocks s.blobs done replies nothing_mounted
  pub bears : (i : ℕ) → Bears (run_faults s.workers i replies) (source_at before i).faults (source_at now i).faults
  pub identities : map (λ a. a.identity) now ≡ map (λ a. a.identity) before
  pub clock : u ≡ option_map (times_asked (length done)) t
  pub decays : Grew p.work.decays q.work.decays (count_by is_decayed (all_replies replies))
  pub clears : Grew p.work.clears q.work.clears (count_by is_cleared (all_replies replies))
  pub faults : (i : ℕ) → (source_at before i).faults ≤ (source_at now i).faults
  pub took : IsTrue e.tells → RunTook e.config.range done replies before now p q
  pub none : NoneGone r q

-- and their replies are written
pub record WrittenSoFar (e : Cached) (s : RunSetting) (done : List (List Line)) (r : RosterView) (marked lacking : Bool) (before now : List SourceView) (t u : Option (List ℕ)) (p q : PassView) (x y : SinkView) : Type 0 where
  pub replies : List (List Reply)
  pub ran : RunSoFar e s done replies r before now t u p q
  pub written : y.written ≡ behind x.written (run_text done replies)
  pub faults : x.faults ≤ y.faults
  pub marks : marked ≡ some_reply is_mark replies
  pub lacks : lacking ≡ some_reply is_memory replies
