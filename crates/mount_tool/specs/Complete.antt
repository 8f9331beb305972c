-- What a run gives where nothing fails.
use Rattle.std.specs.Prelude.{ℕ, ◌≡◌, ◌≤◌, ◌<◌, ◌^◌, ◌-◌, ◌&&◌, ◌⊎◌, max, List, [], ◌∷◌, length, Bool, false, Some, Ok}
use Rattle.std.specs.List.{list_any}
use Rattle.cache_outside.specs.Listing.{Listing}
use Rattle.cache_outside.specs.Sinks.{behind}
use Rattle.cache_outside.specs.Texts.{TextView}
use Rattle.mount_script.specs.Scripts.{script}
use Rattle.mount_script.specs.declared.command.Line.{Line}
use Rattle.mount_script.specs.declared.reply.Reply.{Reply}
use Rattle.run_setup.specs.Words.{run}
use Rattle.run_setup.specs.declared.settings.RunSettings.{RunSettings}
use Rattle.shard_replies.specs.ExpectedReplies.{Mounts}
use Rattle.script_run.specs.Mounting.{after_block, nothing_mounted}
use Rattle.script_run.specs.Allowed.{RunSetting, IsPlain, may_be_gone}
use Rattle.script_run.specs.Counters.{CoreNumbers, all_replies}
use Rattle.script_run.specs.Runs.{HasStats}
use Rattle.script_run.specs.Texts.{run_text}
use Rattle.script_run.specs.declared.ended.Ended.TheVariants.{Done}
use Rattle.shared_run.specs.Blocks.{several, source_at}
use Rattle.mount_tool.specs.Calls.{World, accepted, IsCall}

-- ---- where nothing fails

-- the text is told, and is the script of these blocks
pub record Says (text : TextView) (blocks : List (List Line)) : Type 0 where
  pub bytes : List ℕ
  pub told : text.left ≡ Some bytes
  pub script_of : script bytes ≡ Ok blocks

-- some line of a block reads files of a mount that a line of this block unmounts
abbrev pub mixes : List Line → Bool
mixes block = list_any (λ (l : Line). may_be_gone block l.command) block

-- a count did not rise, and could have
abbrev pub Steady : ℕ → ℕ → Type 0
Steady before now = (now ≡ before) × (before < 2 ^ 64 - 1)

-- no count of failures rose: of the source of the script's text, of the maker of frames, of the sink, of each worker's source of blobs
pub record NoneFailed (workers : ℕ) (x y : World) : Type 0 where
  pub text : Steady x.text.faults y.text.faults
  pub maker : Steady x.maker.faults y.maker.faults
  pub sink : Steady x.sink.faults y.sink.faults
  pub sources : (i : ℕ) → i < max 1 workers → Steady (source_at x.sources i).faults (source_at y.sources i).faults

-- ---- what is written then

-- each line has the reply that whole files give, and no mark
abbrev pub PlainBlock : RunSetting → Mounts → List Line → List Reply → Type 0
PlainBlock s m [] [] = Unit {0}
PlainBlock s m (l ∷ ls) (x ∷ xs) = IsPlain s m l.command x × PlainBlock s m ls xs
PlainBlock s m _ _ = ⊥

-- block after block, each by what is mounted when it begins
abbrev pub PlainRun : RunSetting → Mounts → List (List Line) → List (List Reply) → Type 0
PlainRun s m [] [] = Unit {0}
PlainRun s m (b ∷ bs) (xs ∷ xss) = PlainBlock s m b xs × PlainRun s (after_block s.blobs b xs m) bs xss
PlainRun s m _ _ = ⊥

-- The text of plain replies was written whole. With one worker its `stats` lines, which speak of the cache, are those of some numbers of it at the end.
pub record WroteAll (tells : Bool) (blobs : Listing) (s : RunSettings) (blocks : List (List Line)) (x y : World) : Type 0 where
  pub replies : List (List Reply)
  pub plain : PlainRun (several (tells && x.maker.tells) blobs (max 1 s.workers) s.regions) nothing_mounted blocks replies
  pub written : y.sink.written ≡ behind x.sink.written (run_text blocks replies)
  pub stats : s.workers ≤ 1 → (numbers : CoreNumbers) × HasStats numbers (all_replies replies) (Done false)

-- ---- the law

-- A call with words of `run` and the script of these blocks, where no count of failures rose and no block mixes, has status 0 and wrote the text of plain
-- replies whole; or it has status 6, for want of memory.
abbrev pub Completeness : Type 0
Completeness = (tells : Bool) (blobs : Listing) (words : List (List ℕ)) (s : RunSettings) (blocks : List (List Line)) (x y : World) (status : ℕ)
    → IsCall tells blobs words x y status → accepted words (length x.sources) ≡ Some (run s) → Says x.text blocks
    → NoneFailed s.workers x y → list_any mixes blocks ≡ false
    → ((status ≡ 0) × WroteAll tells blobs s blocks x y) ⊎ (status ≡ 6)
