-- The bytes that a run takes and the state that it leaves, where only `read` lines read: each line by the steps of the cache's state.
use Rattle.std.specs.Prelude.{ℕ, ◌-◌, ◌^◌, ◌+◌, min, List, [], ◌∷◌, length, slice_get, Bool, true, false, Option, Some, None, option_map, if◌then◌else◌}
use Rattle.std.specs.List.{list_any}
use Rattle.std.specs.Option.{option_map_or}
use Rattle.std.specs.Str.{bytes_eq}
use Rattle.cache_outside.specs.Listing.{Listing, manifest_number}
use Rattle.mount_manifest.specs.Manifest.{Facts}
use Rattle.mount_manifest.specs.declared.record.FileRecord.{FileRecord}
use Rattle.blob_parts.specs.Content.{manifest_at}
use Rattle.cache_policy.specs.Policy.{mapped_len}
use Rattle.cache_door.specs.Machine.{State, age, clear, unmount}
use Rattle.cache_reader.specs.Alone.{Outcome, unchanged, then_outcome, outcome_over, reads_outcome}
use Rattle.cache_reader.specs.Parts.{ReadSetting}
use Rattle.mount_script.specs.declared.command.Command.{Command}
use Rattle.mount_script.specs.declared.command.Command.TheVariants.{Mount, Unmount, Clear, Decay, Search, Fetch, Read}
use Rattle.mount_script.specs.declared.command.Line.{Line}
use Rattle.mount_script.specs.declared.reply.Reply.{Reply}
use Rattle.mount_script.specs.declared.reply.Reply.TheVariants as reply
use Rattle.shard_replies.specs.ExpectedReplies.{facts_in, read_steps, used_name}
use Rattle.script_run.specs.Lines.{Cached}

-- ---- what is mounted

-- a mount: its own number, and its manifest's
pub record MountNumbers : Type 0 where
  pub mount : ℕ
  pub manifest : ℕ

-- the mounts by their names, and how many were made
pub record NamedMounts : Type 0 where
  pub under : List ℕ → Option MountNumbers
  pub made : ℕ

abbrev pub none_named : NamedMounts
none_named = record { under = λ name. None; made = 0 }

-- a mount that is made has as number how many were made before
abbrev pub numbers_in : ℕ → ℕ → MountNumbers
numbers_in made manifest = record { mount = made; manifest = manifest }

-- behind a line: a mount that was made adds its name, an unmount takes it away
abbrev pub named_behind : Listing → Command → Reply → NamedMounts → NamedMounts
named_behind blobs (Mount name manifest) (reply.Mounted files docs) m = record {
  under = λ other. if bytes_eq name other then option_map (numbers_in m.made) (manifest_number manifest blobs) else m.under other;
  made = m.made + 1;
}
named_behind blobs (Unmount name) reply.Unmounted m = record { under = λ other. if bytes_eq name other then None else m.under other; made = m.made }
named_behind blobs c x m = m

-- behind a block: a line of the block sees none of it
abbrev pub named_behind_block : Listing → List Line → List Reply → NamedMounts → NamedMounts
named_behind_block blobs (l ∷ ls) (x ∷ xs) m = named_behind_block blobs ls xs (named_behind blobs l.command x m)
named_behind_block blobs _ _ m = m

-- ---- a line

-- the files of a mount, read at a time; of its table the manifest's number alone matters here
abbrev pub mount_reading : Cached → ℕ → MountNumbers → ReadSetting
mount_reading e now m = record { tells = e.tells; blobs = e.blobs; table = record { number = m.manifest; files = [] }; config = e.config; mount = m.mount; now = now }

-- the length of a file, as its manifest says it
abbrev pub length_in : Facts → ℕ → ℕ
length_in f file = option_map_or (λ (r : FileRecord). r.length) (slice_get f.files file) 0

-- what a manifest of the archive tells
abbrev pub facts_of : Listing → ℕ → Facts
facts_of blobs manifest = facts_in (manifest_at blobs manifest)

-- A line at a time, by the mount that it names, if there is one. A `read` takes what the parts of its range take, one after another, and nothing where
-- there is no such file, or the range passes its end. A decay ages the cache; a `clear` clears the mount's manifest, and an `unmount` marks the mount besides.
abbrev pub line_step : Cached → ℕ → Option MountNumbers → Command → State → Outcome
line_step e now m Decay s = unchanged (age now s)
line_step e now (Some m) (Clear name) s = unchanged (clear m.manifest s)
line_step e now (Some m) (Unmount name) s = unchanged (unmount m.mount m.manifest s)
line_step e now (Some m) (Read name file at len) s =
    let facts = facts_of e.blobs m.manifest in
    reads_outcome (mount_reading e now m) 0 (read_steps (length_in facts) facts file at len) s
line_step e now m c s = unchanged s

abbrev pub line_outcome : Cached → ℕ → NamedMounts → Command → State → Outcome
line_outcome e now m c s = line_step e now (m.under (used_name c)) c s

-- ---- a run

-- the lines of a block, one after another: all see what was mounted when the block began, and have the block's time
abbrev pub block_outcome : Cached → ℕ → NamedMounts → List Line → State → Outcome
block_outcome e now m block s = outcome_over (λ (l : Line). line_outcome e now m l.command) block s

abbrev pub blocks_outcome : Cached → List ℕ → NamedMounts → List (List Line) → List (List Reply) → State → Outcome
blocks_outcome e (now ∷ times) m (b ∷ bs) (xs ∷ xss) s =
    let first = block_outcome e now m b s in
    then_outcome first (blocks_outcome e times (named_behind_block e.blobs b xs m) bs xss first.state)
blocks_outcome e times m bs xss s = unchanged s

-- A run of these blocks at these times from a state on, with nothing mounted. Of the replies only those to `mount` and `unmount` lines matter: they say
-- which of them succeeded.
abbrev pub run_takes : Cached → List ℕ → List (List Line) → List (List Reply) → State → Outcome
run_takes e times blocks replies s = blocks_outcome e times none_named blocks replies s

-- ---- what it is said of

-- a line that may read ahead
abbrev pub searches : Command → Bool
searches (Search name size text) = true
searches (Fetch name segment doc) = true
searches _ = false

-- some line of these blocks is a `search` or a `fetch`
abbrev pub some_search : List (List Line) → Bool
some_search blocks = list_any (λ block. list_any (λ (l : Line). searches l.command) block) blocks

-- the reply to a `stats` line behind such a run: the numbers of the state's policy, and the bytes that were fetched and read directly, each at most the
-- last value of a u64
abbrev pub stats_behind : Outcome → Reply
stats_behind o = reply.Stats (length o.state.policy.free) (mapped_len o.state.policy) (length o.state.policy.leaving)
    o.state.policy.evictions o.state.policy.promotions o.state.policy.demotions (min o.fetched (2 ^ 64 - 1)) (min o.direct (2 ^ 64 - 1))
