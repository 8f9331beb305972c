-- Which replies a run may give.
use Rattle.std.specs.Prelude.{ℕ, ◌≡◌, ◌≤◌, ◌+◌, ◌-◌, ◌^◌, ◌%◌, ◌==◌, ◌&&◌, min, List, [], ◌∷◌, ◌++◌, codes, Bool, true, false, IsTrue, if◌then◌else◌}
use Rattle.std.specs.List.{list_any}
use Rattle.std.specs.Str.{bytes_eq}
use Rattle.cache_outside.specs.Listing.{Listing}
use Rattle.mount_script.specs.declared.command.Command.{Command}
use Rattle.mount_script.specs.declared.command.Command.TheVariants.{Mount, Unmount, Stats, Search, Fetch, Read}
use Rattle.mount_script.specs.declared.command.Line.{Line}
use Rattle.mount_script.specs.declared.reply.Reply.{Reply}
use Rattle.mount_script.specs.declared.reply.Reply.TheVariants as reply
use Rattle.shard_replies.specs.ExpectedReplies.{Mounts, expected_reply}
use Rattle.script_run.specs.Mounting.{after_block}

-- what a run is over: whether archive and frames tell, the archive's blobs, how many workers, how many regions the cache has
pub record RunSetting : Type 0 where
  pub tells : Bool
  pub blobs : Listing
  pub workers : ℕ
  pub regions : ℕ

-- ---- one line

-- the line reads files of a mount
abbrev pub reads_files : Command → Bool
reads_files (Search name size text) = true
reads_files (Fetch name segment doc) = true
reads_files (Read name file at len) = true
reads_files _ = false

-- the line reads from the source
abbrev pub reads_source : Command → Bool
reads_source (Mount name manifest) = true
reads_source c = reads_files c

abbrev pub is_unmount_of : List ℕ → Command → Bool
is_unmount_of name (Unmount other) = bytes_eq other name
is_unmount_of name _ = false

-- an unmount of this name stands among these lines
abbrev pub unmounted_in : List Line → List ℕ → Bool
unmounted_in near name = list_any (λ (l : Line). is_unmount_of name l.command) near

-- the line reads files of a mount of which an unmount stands among these lines
abbrev pub may_be_gone : List Line → Command → Bool
may_be_gone near (Search name size text) = unmounted_in near name
may_be_gone near (Fetch name segment doc) = unmounted_in near name
may_be_gone near (Read name file at len) = unmounted_in near name
may_be_gone near _ = false

-- the regions that are free, mapped and leaving are all
abbrev pub IsStats : ℕ → Reply → Type 0
IsStats regions (reply.Stats free listed leaving evictions promotions demotions fetched direct) = free + listed + leaving ≡ regions
IsStats regions _ = ⊥

-- several workers are refused
abbrev pub IsStatsReply : Bool → ℕ → Reply → Type 0
IsStatsReply true regions given = IsStats regions given
IsStatsReply false regions given = given ≡ reply.Refused (codes "refused stats")

-- the reply that whole files give; a `stats` line speaks of the cache
abbrev pub IsPlain : RunSetting → Mounts → Command → Reply → Type 0
IsPlain s m Stats given = IsStatsReply (s.workers == 1) s.regions given
IsPlain s m c given = IsTrue s.tells → given ≡ expected_reply s.blobs m c

-- That reply, or a mark in its place. `near` are the lines before it, and with several workers all lines of its block.
abbrev pub Allowed : RunSetting → Mounts → List Line → Command → Reply → Type 0
Allowed s m near c reply.Fault = IsTrue (reads_source c)
Allowed s m near c reply.Gone = IsTrue (may_be_gone near c)
Allowed s m near c reply.NoMemory = Unit {0}
Allowed s m near c given = IsPlain s m c given

-- ---- a block

abbrev pub near_lines : RunSetting → List Line → List Line → List Line
near_lines s block before = if s.workers == 1 then before else block

-- the lines of a block behind those before, a reply each; all see what was mounted when the block began
abbrev pub AllowedFrom : RunSetting → Mounts → List Line → List Line → List Line → List Reply → Type 0
AllowedFrom s m block before [] [] = Unit {0}
AllowedFrom s m block before (l ∷ ls) (x ∷ xs) = Allowed s m (near_lines s block before) l.command x × AllowedFrom s m block (before ++ l ∷ []) ls xs
AllowedFrom s m block before _ _ = ⊥

abbrev pub AllowedBlock : RunSetting → Mounts → List Line → List Reply → Type 0
AllowedBlock s m block replies = AllowedFrom s m block [] block replies

abbrev pub AllowedRun : RunSetting → Mounts → List (List Line) → List (List Reply) → Type 0
AllowedRun s m [] [] = Unit {0}
AllowedRun s m (b ∷ bs) (xs ∷ xss) = AllowedBlock s m b xs × AllowedRun s (after_block s.blobs b xs m) bs xss
AllowedRun s m _ _ = ⊥

-- ---- the counts of faults

abbrev pub is_fault : Reply → Bool
is_fault reply.Fault = true
is_fault _ = false

-- how many of a block's lines from number k on were answered `fault` and ran on source i: line k belongs to source k mod workers
abbrev pub faults_of : ℕ → ℕ → ℕ → List Reply → ℕ
faults_of workers i k [] = 0
faults_of workers i k (x ∷ xs) = (if (k % workers == i) && is_fault x then 1 else 0) + faults_of workers i (k + 1) xs

abbrev pub run_faults : ℕ → ℕ → List (List Reply) → ℕ
run_faults workers i [] = 0
run_faults workers i (xs ∷ xss) = faults_of workers i 0 xs + run_faults workers i xss

-- a count rose by at least n, or stands at its last value
abbrev pub Bears : ℕ → ℕ → ℕ → Type 0
Bears n before now = min (before + n) (2 ^ 64 - 1) ≤ now

-- ---- marks

abbrev pub is_mark : Reply → Bool
is_mark reply.Fault = true
is_mark reply.Gone = true
is_mark _ = false

abbrev pub is_memory : Reply → Bool
is_memory reply.NoMemory = true
is_memory _ = false

-- a reply that is no mark and no want of memory
abbrev pub Unmarked : Reply → Type 0
Unmarked reply.Fault = ⊥
Unmarked reply.Gone = ⊥
Unmarked reply.NoMemory = ⊥
Unmarked _ = Unit {0}

-- some reply of a run is such a one
abbrev pub some_reply : (Reply → Bool) → List (List Reply) → Bool
some_reply f replies = list_any (λ block. list_any f block) replies
