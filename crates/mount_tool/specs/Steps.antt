-- The steps of the run of a script: refusing its text, and running its blocks over a new cache.
use Rattle.std.specs.Prelude.{ℕ, ◌≡◌, ◌&&◌, List, Bool, true, IsTrue}
use Rattle.byte_text.specs.Counts.{Rose}
use Rattle.cache_outside.specs.Listing.{Listing}
use Rattle.cache_outside.specs.Frames.{MakerView}
use Rattle.cache_outside.specs.Sinks.{SinkView}
use Rattle.mount_script.specs.declared.command.Line.{Line}
use Rattle.mount_script.specs.declared.error.ScriptError.{ScriptError}
use Rattle.mount_script.specs.declared.error.ScriptError.TheVariants as script
use Rattle.run_setup.specs.declared.settings.RunSettings.{RunSettings}
use Rattle.run_setup.specs.Settings.{config_of}
use Rattle.script_run.specs.Blocks.{alone}
use Rattle.script_run.specs.Runs.{IsRun, CoreSeen, Outside}
use Rattle.script_run.specs.declared.ended.Ended.{Ended}
use Rattle.cache_table.specs.Views.{PassView}
use Rattle.script_run.specs.Lines.{cached}
use Rattle.shared_run.specs.Blocks.{several}
use Rattle.shared_run.specs.Runs.{IsSharedRun, Outsides}
use Rattle.mount_tool.specs.Replies.{error_text, run_status}
use Rattle.mount_tool.specs.Runs.{IsNoted, IsOverFrames}

-- why a text is no script was written with status 3; or memory was wanted before, with status 6, and nothing was written
abbrev pub IsRefusal : ScriptError → SinkView → SinkView → ℕ → Type 0
IsRefusal script.NoMemory before now status = (status ≡ 6) × (now ≡ before)
IsRefusal e before now status = IsNoted before now (error_text e) 3 status

-- how a script that was read may end: the maker of frames failed, memory was wanted before the first block, or it ran, over frames
-- of which it is known whether they tell
pub data BlocksEnding : Type 0 where
  without_frames : BlocksEnding
  without_room : BlocksEnding
  over : Bool → CoreSeen → Ended → BlocksEnding

abbrev pub BlocksEnd : Bool → Listing → RunSettings → List (List Line) → MakerView → MakerView → Outside → Outside → BlocksEnding → ℕ → Type 0
BlocksEnd tells blobs s blocks m n x y without_frames status = (status ≡ 7) × Rose m.faults n.faults × (y ≡ x)
BlocksEnd tells blobs s blocks m n x y without_room status = (status ≡ 6) × (y ≡ x)
BlocksEnd tells blobs s blocks m n x y (over told core ended) status =
    (status ≡ run_status ended) × IsOverFrames m told core × IsRun (cached tells blobs (config_of s)) (alone (tells && told) blobs s.regions) blocks x y core ended

pub record BlocksEnded (tells : Bool) (blobs : Listing) (s : RunSettings) (blocks : List (List Line)) (m n : MakerView) (x y : Outside) (status : ℕ) : Type 0 where
  pub ending : BlocksEnding
  pub ends : BlocksEnd tells blobs s blocks m n x y ending status

-- ---- several workers

-- how it may end with several workers
pub data SharedEnding : Type 0 where
  unframed : SharedEnding
  roomless : SharedEnding
  through : Bool → PassView → PassView → Ended → SharedEnding

abbrev pub SharedEnd : Bool → Listing → RunSettings → List (List Line) → MakerView → MakerView → Outsides → Outsides → SharedEnding → ℕ → Type 0
SharedEnd tells blobs s blocks m n x y unframed status = (status ≡ 7) × Rose m.faults n.faults × (y ≡ x)
SharedEnd tells blobs s blocks m n x y roomless status = (status ≡ 6) × (y ≡ x)
SharedEnd tells blobs s blocks m n x y (through told first last ended) status =
    (status ≡ run_status ended) × (IsTrue m.tells → told ≡ true) × IsSharedRun (cached tells blobs (config_of s)) (several (tells && told) blobs s.workers s.regions) blocks x y first last ended

pub record SharedBlocksEnded (tells : Bool) (blobs : Listing) (s : RunSettings) (blocks : List (List Line)) (m n : MakerView) (x y : Outsides) (status : ℕ) : Type 0 where
  pub ending : SharedEnding
  pub ends : SharedEnd tells blobs s blocks m n x y ending status
