-- What the program may write, and its statuses.
use Rattle.std.specs.Prelude.{ℕ, ◌≡◌, ◌⊎◌, ◌++◌, List, Bool, true, IsTrue, codes}
use Rattle.byte_text.specs.Counts.{Rose}
use Rattle.cache_outside.specs.Listing.{Listing}
use Rattle.cache_outside.specs.Frames.{MakerView}
use Rattle.cache_outside.specs.Sinks.{SinkView, behind}
use Rattle.run_setup.specs.Words.{Term}
use Rattle.script_run.specs.Runs.{CoreSeen, IsFront}
use Rattle.mount_tool.specs.Replies.{status_of}
use Rattle.mount_tool.specs.Terms.{term_reply}
use Rattle.mount_script.specs.Replies.{text_of}
use Rattle.mount_script.specs.declared.reply.Reply.{Reply}
use Rattle.mount_script.specs.declared.reply.Reply.TheVariants.{Hits, Refused, Fault, NoMemory}

-- hits or a refusal, the wanted one where the archive tells; or a mark with its cause: `fault` only where the source's
-- count rose
abbrev pub IsAllowed : Bool → Reply → ℕ → ℕ → Reply → Type 0
IsAllowed tells wanted before now Fault = Rose before now
IsAllowed tells wanted before now NoMemory = Unit {0}
IsAllowed tells wanted before now (Hits total shown) = IsTrue tells → Hits total shown ≡ wanted
IsAllowed tells wanted before now (Refused text) = IsTrue tells → Refused text ≡ wanted
IsAllowed tells wanted before now _ = ⊥

-- the text was written whole, and the status is its own; or a front of it was, and the sink failed or memory was wanted
abbrev pub IsWritten : SinkView → SinkView → List ℕ → ℕ → ℕ → Type 0
IsWritten before now text own status =
    ((now.written ≡ behind before.written text) × (status ≡ own))
    ⊎ (IsFront before.written now.written text × (((status ≡ 5) × Rose before.faults now.faults) ⊎ (status ≡ 6)))

-- a text was written whole with its own status, or a front of it where the sink failed; or memory was wanted, with status 6
abbrev pub IsNoted : SinkView → SinkView → List ℕ → ℕ → ℕ → Type 0
IsNoted before now text own status =
    ((status ≡ own) × ((now.written ≡ behind before.written text) ⊎ (IsFront before.written now.written text × Rose before.faults now.faults)))
    ⊎ ((status ≡ 6) × IsFront before.written now.written text)

-- a run of `term`: an allowed reply, and how its text and a newline were written
pub record IsTermRun (tells : Bool) (blobs : Listing) (t : Term) (faults_before faults_now : ℕ) (sink_before sink_now : SinkView) (status : ℕ) : Type 0 where
  pub reply : Reply
  pub allowed : IsAllowed tells (term_reply blobs t) faults_before faults_now reply
  pub written : IsWritten sink_before sink_now (text_of reply ++ codes "\n") (status_of reply) status

-- The frames of a core that a maker made: whether they tell is known, they do where the maker's do, and where its frames are steady none ever failed.
pub record IsOverFrames (m : MakerView) (told : Bool) (core : CoreSeen) : Type 0 where
  pub tell : IsTrue m.tells → told ≡ true
  pub steady : IsTrue m.steady → (core.faults_before ≡ 0) × (core.faults_now ≡ 0)
