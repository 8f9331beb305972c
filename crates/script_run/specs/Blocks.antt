-- What the lines of a block make of a run with one worker.
use Rattle.std.specs.Prelude.{ℕ, ◌≡◌, ◌≤◌, ◌<◌, ◌^◌, ◌||◌, ◌⊎◌, List, [], ◌∷◌, ◌++◌, length, Bool, true, false, IsTrue, IfSome, Option, Some, None, Ok, option_map, if◌then◌else◌}
use Rattle.std.specs.Str.{bytes_eq}
use Rattle.cache_outside.specs.Listing.{Listing}
use Rattle.cache_outside.specs.Sources.{SourceView}
use Rattle.cache_outside.specs.Sinks.{SinkView, behind}
use Rattle.region_ranges.specs.declared.keys.Config.{Config}
use Rattle.region_ranges.specs.Keys.{IsConfig}
use Rattle.index_mounts.specs.Rosters.{MountView, RosterView, IsRoster, mounted, no_mounts}
use Rattle.cache_policy.specs.Policy.{PolicyView, mapped_len}
use Rattle.cache_door.specs.Machine.{State, is_gone, new_state}
use Rattle.cache_door.specs.Doors.{nothing}
use Rattle.cache_door.specs.Cores.{CoreView, state_of, door_of, held_by, Later}
use Rattle.cache_reader.specs.declared.report.Report.{Report}
use Rattle.cache_reader.specs.Going.{Moment, moment}
use Rattle.mount_script.specs.declared.command.Command.{Command}
use Rattle.mount_script.specs.declared.command.Command.TheVariants.{Mount, Unmount, Stats}
use Rattle.mount_script.specs.declared.command.Line.{Line}
use Rattle.mount_script.specs.declared.reply.Reply.{Reply}
use Rattle.mount_script.specs.declared.reply.Reply.TheVariants as reply
use Rattle.mount_script.specs.Scripts.{script}
use Rattle.shard_replies.specs.ExpectedReplies.{used_name}
use Rattle.script_run.specs.Mounting.{mounts_of, after_block, after_blocks, nothing_mounted}
use Rattle.script_run.specs.Allowed.{RunSetting, AllowedBlock, AllowedFrom, AllowedRun, faults_of, run_faults, Bears, unmounted_in, is_mark, is_memory, some_reply}
use Rattle.script_run.specs.Texts.{run_text}
use Rattle.script_run.specs.Clocks.{times_asked, first_times}
use Rattle.script_run.specs.Counters.{Counters, no_counts, numbers_of, StatsRise, StatsBelow, LastStats, all_replies}
use Rattle.script_run.specs.Lines.{HasKind, is_shared, is_mount, Cached, LineDoes, Summed, no_sums}
use Rattle.script_run.specs.MountLines.{MountKind, RosterGoes, MountDoes}
use Rattle.script_run.specs.Bytes.{ManifestTook}
use Rattle.script_run.specs.Room.{OnceLaws}
use Rattle.script_run.specs.declared.sums.Sums.{Sums}

-- a script that was read from some text: its `mount` and `stats` lines stand alone in their blocks
abbrev pub WasRead : List (List Line) → Type 0
WasRead blocks = (text : List ℕ) × (script text ≡ Ok blocks)

-- a run with one worker
abbrev pub alone : Bool → Listing → ℕ → RunSetting
alone tells blobs regions = record { tells = tells; blobs = blobs; workers = 1; regions = regions }

-- a source and the door of a core's one actor
abbrev pub seen : SourceView → CoreView → Moment
seen source core = moment source (door_of core 0)

-- the one actor holds nothing
abbrev pub IsIdle : CoreView → Type 0
IsIdle core = held_by core 0 ≡ nothing

-- the first state of a cache with these settings and one actor, over some frames
abbrev pub IsFirst : Config → State → Type 0
IsFirst config s = (told : Bool) × (frames : List (List ℕ)) × (s ≡ new_state config told frames 1)

-- A new core with one actor: its state is the first one, nothing is held, no mount is unmounted, and nothing is counted.
pub record IsNew (core : CoreView) : Type 0 where
  pub first : IsFirst core.config (state_of core)
  pub idle : core.holds ≡ None ∷ []
  pub mounts : (m : ℕ) → is_gone (state_of core) m ≡ false
  pub evictions : core.policy.evictions ≡ 0
  pub promotions : core.policy.promotions ≡ 0
  pub demotions : core.policy.demotions ≡ 0

-- ---- unmounted mounts

-- each mount that was unmounted has an unmount line among these, and no number is unmounted that no mount has had
pub record UnmountedIn (r : RosterView) (near : List Line) (core : CoreView) : Type 0 where
  pub names : (name : List ℕ) (m : MountView) → mounted name r ≡ Some m → is_gone (state_of core) m.mount ≡ true → unmounted_in near name ≡ true
  pub numbers : (n : ℕ) → r.made ≤ n → is_gone (state_of core) n ≡ false

-- a line that was answered so takes the mount of this name away
abbrev pub forgets : Command → Reply → List ℕ → Bool
forgets (Unmount name) reply.Unmounted other = bytes_eq name other
forgets c x other = false

-- some line of a block takes the mount of this name away
abbrev pub forgets_any : List Line → List Reply → List ℕ → Bool
forgets_any (l ∷ ls) (x ∷ xs) other = forgets l.command x other || forgets_any ls xs other
forgets_any ls xs other = false

-- a roster without the mounts that a block took away
pub record Forgotten (block : List Line) (replies : List Reply) (before now : RosterView) : Type 0 where
  pub mounts : (other : List ℕ) → mounted other now ≡ (if forgets_any block replies other then None else mounted other before)
  pub made : now.made ≡ before.made

-- ---- counters

-- the counters of a core and the sums of a run
abbrev pub counters_of : PolicyView → Sums → Counters
counters_of p sums = record { evictions = p.evictions; promotions = p.promotions; demotions = p.demotions; fetched = sums.fetched; direct = sums.direct }

-- the reply to a `stats` line
abbrev pub stats_of : PolicyView → Sums → Reply
stats_of p sums = reply.Stats (length p.free) (mapped_len p) (length p.leaving) p.evictions p.promotions p.demotions sums.fetched sums.direct

-- no sum fell
pub record SumsLater (before now : Sums) : Type 0 where
  pub fetched : before.fetched ≤ now.fetched
  pub direct : before.direct ≤ now.direct

-- none of these is a reply to `stats`
abbrev pub NoStats : List Reply → Type 0
NoStats [] = Unit {0}
NoStats (reply.Stats free listed leaving evictions promotions demotions fetched direct ∷ xs) = ⊥
NoStats (x ∷ xs) = NoStats xs

-- a block is one `stats` line, whose reply says what was counted and which changes nothing, or has none
abbrev pub BlockStats : CoreView → CoreView → Sums → Sums → List Reply → Type 0
BlockStats v w before now replies = NoStats replies ⊎ ((replies ≡ stats_of v.policy before ∷ []) × (w ≡ v) × (now ≡ before))

-- ---- lines

-- lines that every worker can run
abbrev pub AllShared : List Line → Type 0
AllShared [] = Unit {0}
AllShared (l ∷ ls) = (is_shared l.command ≡ true) × AllShared ls

-- none of them is a `mount`
abbrev pub NoMounts : List Line → Type 0
NoMounts [] = Unit {0}
NoMounts (l ∷ ls) = (is_mount l.command ≡ false) × NoMounts ls

-- a `mount` or a `stats` line stands alone in its block
abbrev pub IsBlock : List Line → Type 0
IsBlock [] = ⊥
IsBlock (l ∷ ls) = AllShared (l ∷ ls) ⊎ ((is_shared l.command ≡ false) × (ls ≡ []))

-- the replies are of their commands' kinds
abbrev pub Kinds : RosterView → List Line → List Reply → Type 0
Kinds r [] [] = Unit {0}
Kinds r (l ∷ ls) (x ∷ xs) = HasKind l.command (mounted (used_name l.command) r) x × Kinds r ls xs
Kinds r ls xs = ⊥

-- The first lines of a block, `done`, have these replies: a source went from a to b, and a core from v to w.
pub record LinesRan (s : RunSetting) (r : RosterView) (block done : List Line) (replies : List Reply) (a b : SourceView) (v w : CoreView) : Type 0 where
  pub allowed : AllowedFrom s (mounts_of r) block [] done replies
  pub kinds : Kinds r done replies
  pub bears : Bears (faults_of 1 0 0 replies) a.faults b.faults
  pub faults : a.faults ≤ b.faults
  pub identity : b.identity ≡ a.identity
  pub core : Later v w
  pub idle : IsIdle w
  pub unmounted : UnmountedIn r done w

-- a block ran: a roster went from r to q besides
pub record BlockRan (s : RunSetting) (r q : RosterView) (block : List Line) (replies : List Reply) (a b : SourceView) (v w : CoreView) : Type 0 where
  pub allowed : AllowedBlock s (mounts_of r) block replies
  pub mounts : IsTrue s.tells → mounts_of q ≡ after_block s.blobs block replies (mounts_of r)
  pub bears : Bears (faults_of 1 0 0 replies) a.faults b.faults
  pub faults : a.faults ≤ b.faults
  pub identity : b.identity ≡ a.identity
  pub core : Later v w
  pub idle : IsIdle w
  pub unmounted : UnmountedIn q [] w

-- ---- what a run did, line after line

-- what is seen of a run at one moment: its source, its core, and the sums of its lines
pub record Point : Type 0 where
  pub source : SourceView
  pub core : CoreView
  pub sums : Sums

abbrev pub point : SourceView → CoreView → Sums → Point
point source core sums = record { source = source; core = core; sums = sums }

-- a line that is neither `mount` nor `stats` went from x to y, and its reads were added to the sums
pub record LineWent (e : Cached) (now : ℕ) (r : RosterView) (c : Command) (given : Reply) (x y : Point) : Type 0 where
  pub report : Report
  pub does : LineDoes e now c (mounted (used_name c) r) given report (seen x.source x.core) (seen y.source y.core)
  pub faults : x.source.faults ≤ y.source.faults
  pub core : Later x.core y.core
  pub sums : Summed x.sums y.sums report
  pub below : (y.sums.fetched < 2 ^ 64) × (y.sums.direct < 2 ^ 64)

-- such lines, one after another, at one time and with one roster
abbrev pub LinesWent : Cached → ℕ → RosterView → List Line → List Reply → Point → Point → Type 0
LinesWent e now r [] [] x y = y ≡ x
LinesWent e now r (l ∷ ls) (g ∷ gs) x y = (z : Point) × LineWent e now r l.command g x z × LinesWent e now r ls gs z y
LinesWent e now r ls gs x y = ⊥

-- a block of such lines: what they unmounted is taken out of the roster behind them
pub record SharedWent (e : Cached) (now : ℕ) (r q : RosterView) (block : List Line) (replies : List Reply) (x y : Point) : Type 0 where
  pub shared : AllShared block
  pub kept : IsRoster e.tells e.blobs r
  pub lines : LinesWent e now r block replies x y
  pub forgotten : Forgotten block replies r q
  pub stats : NoStats replies

-- the block of a `mount` line
pub record MountWent (e : Cached) (r q : RosterView) (block : List Line) (replies : List Reply) (x y : Point) : Type 0 where
  pub number : ℕ
  pub name : List ℕ
  pub manifest : List ℕ
  pub given : Reply
  pub line : block ≡ record { number = number; command = Mount name manifest } ∷ []
  pub reply_is : replies ≡ given ∷ []
  pub kind : MountKind given
  pub roster : RosterGoes e.tells e.blobs name manifest r q given
  pub door : MountDoes (door_of x.core 0) (door_of y.core 0) given
  pub took : IsTrue e.tells → ManifestTook e.blobs manifest x.source y.source
  pub faults : x.source.faults ≤ y.source.faults
  pub core : Later x.core y.core
  pub sums : y.sums ≡ x.sums

-- the block of a `stats` line: it changes nothing
pub record StatsWent (r q : RosterView) (block : List Line) (replies : List Reply) (x y : Point) : Type 0 where
  pub number : ℕ
  pub line : block ≡ record { number = number; command = Stats } ∷ []
  pub reply_is : replies ≡ stats_of x.core.policy x.sums ∷ []
  pub roster : q ≡ r
  pub rests : y ≡ x

-- a block went from x to y at this time, and a roster from r to q
abbrev pub BlockWent : Cached → ℕ → RosterView → RosterView → List Line → List Reply → Point → Point → Type 0
BlockWent e now r q block replies x y = SharedWent e now r q block replies x y ⊎ (MountWent e r q block replies x y ⊎ StatsWent r q block replies x y)

-- blocks, one after another, each at its time
abbrev pub BlocksWent : Cached → List ℕ → RosterView → RosterView → List (List Line) → List (List Reply) → Point → Point → Type 0
BlocksWent e [] r q [] [] x y = (q ≡ r) × (y ≡ x)
BlocksWent e (n ∷ ns) r q (b ∷ bs) (gs ∷ gss) x y = (t : RosterView) × (z : Point) × BlockWent e n r t b gs x z × BlocksWent e ns t q bs gss z y
BlocksWent e ns r q bs gss x y = ⊥

-- the times of so many blocks are the clock's first answers, where it tells
abbrev pub TimesTold : ℕ → Option (List ℕ) → List ℕ → Type 0
TimesTold n coming times = IfSome coming (λ ts. times ≡ first_times n ts)

-- the first blocks of a run, from its beginning on
pub record RunWent (e : Cached) (done : List (List Line)) (replies : List (List Reply)) (r : RosterView) (t : Option (List ℕ)) (x y : Point) : Type 0 where
  pub times : List ℕ
  pub told : TimesTold (length done) t times
  pub first : IsFirst e.config (state_of x.core)
  pub limits : IsConfig e.config
  pub few : e.config.max_freq < 4294967296
  pub count : length first.1 ≡ e.config.regions
  pub laws : OnceLaws e.blobs
  pub went : BlocksWent e times no_mounts r done replies x y

-- ---- a run so far

-- The `stats` replies so far rise up to what is counted now, are not above it, and the last reply, if it is one, says just this.
pub record StatsFit (policy : PolicyView) (sums : Sums) (replies : List Reply) : Type 0 where
  pub on : (more : List Reply) → StatsRise (counters_of policy sums) more → StatsRise no_counts (replies ++ more)
  pub below : StatsBelow (numbers_of policy) replies
  pub last : LastStats (numbers_of policy) replies

-- Some first blocks of a script ran: a source went from a to b, the coming times of a clock from t to u, and a core from v to w; these are
-- the roster and the sums now.
pub record RunSoFar (s : RunSetting) (done : List (List Line)) (replies : List (List Reply)) (r : RosterView) (sums : Sums) (a b : SourceView) (t u : Option (List ℕ)) (v w : CoreView) : Type 0 where
  pub many : length replies ≡ length done
  pub allowed : AllowedRun s nothing_mounted done replies
  pub mounts : IsTrue s.tells → mounts_of r ≡ after_blocks s.blobs done replies nothing_mounted
  pub bears : Bears (run_faults 1 0 replies) a.faults b.faults
  pub faults : a.faults ≤ b.faults
  pub identity : b.identity ≡ a.identity
  pub clock : u ≡ option_map (times_asked (length done)) t
  pub core : Later v w
  pub idle : IsIdle w
  pub unmounted : UnmountedIn r [] w
  pub stats : StatsFit w.policy sums (all_replies replies)

-- and their replies are written
pub record WrittenSoFar (e : Cached) (s : RunSetting) (done : List (List Line)) (r : RosterView) (sums : Sums) (marked lacking : Bool) (a b : SourceView) (t u : Option (List ℕ)) (v w : CoreView) (x y : SinkView) : Type 0 where
  pub replies : List (List Reply)
  pub ran : RunSoFar s done replies r sums a b t u v w
  pub went : RunWent e done replies r t (point a v no_sums) (point b w sums)
  pub written : y.written ≡ behind x.written (run_text done replies)
  pub faults : x.faults ≤ y.faults
  pub marks : marked ≡ some_reply is_mark replies
  pub lacks : lacking ≡ some_reply is_memory replies
