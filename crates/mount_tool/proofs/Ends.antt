-- How the run of a script ends, by how its steps end.
use Rattle.std.proofs.Common.{◌≡◌, ◌≤◌, ◌<◌, ℕ, List, ◌∷◌, ◌&&◌, Bool, true, refl, ap, subst}
use Rattle.std.specs.Prelude.{Err, IsTrue}
use Rattle.region_ranges.specs.declared.keys.Config.{Config}
use Rattle.cache_outside.specs.Listing.{Listing}
use Rattle.cache_outside.specs.Sources.{SourceView}
use Rattle.cache_outside.specs.Texts.{TextView}
use Rattle.cache_outside.specs.Frames.{MakerView}
use Rattle.cache_outside.specs.Sinks.{SinkView}
use Rattle.cache_outside.specs.Clocks.{ClockView}
use Rattle.mount_script.specs.Scripts.{script, IsScript}
use Rattle.mount_script.specs.declared.command.Line.{Line}
use Rattle.mount_script.specs.declared.error.ScriptError.{ScriptError}
use Rattle.mount_script.specs.declared.error.ScriptError.TheVariants as script_error
use Rattle.run_setup.specs.declared.settings.RunSettings.{RunSettings}
use Rattle.run_setup.specs.Texts.{IsRead}
use Rattle.run_setup.specs.Settings.{config_of}
use Rattle.script_run.specs.Blocks.{alone}
use Rattle.script_run.specs.Runs.{Outside, CoreSeen, outside, IsRun}
use Rattle.script_run.specs.declared.ended.Ended.{Ended}
use Rattle.mount_tool.specs.Replies.{run_status}
use Rattle.mount_tool.specs.Calls.{world, no_script, no_frame, no_room, ran, shared, IsUnrun, IsScriptText, IsScriptRun}
use Rattle.mount_tool.specs.Runs.{IsOverFrames}
use Rattle.mount_tool.specs.Steps.{IsRefusal, BlocksEnding, without_frames, without_room, over, BlocksEnd, BlocksEnded, SharedEnding, unframed, roomless, through, SharedEnd, SharedBlocksEnded}
use Rattle.cache_table.specs.Views.{PassView}
use Rattle.script_run.specs.Lines.{cached}
use Rattle.shared_run.specs.Blocks.{several}
use Rattle.shared_run.specs.Runs.{IsSharedRun, Outsides, outsides}

unrun : (text now : TextView) (m n : MakerView) (k l : SinkView) (c d : ClockView) (a b : SourceView) (rest : List SourceView)
    → outside b l d ≡ outside a k c → IsUnrun (world text m k c (a ∷ rest)) (world now n l d (b ∷ rest))
unrun text now m n k l c d a b rest same = record {
  sink = ap (λ (o : Outside). o.sink) same;
  clock = ap (λ (o : Outside). o.clock) same;
  sources = ap (λ (o : Outside). o.source ∷ rest) same;
}

ends_by : (tells : Bool) (blobs : Listing) (s : RunSettings) (text now : TextView) (m n : MakerView) (k l : SinkView) (c d : ClockView) (a b : SourceView) (rest : List SourceView)
    (t : List ℕ) (blocks : List (List Line)) (status : ℕ) → s.workers ≤ 1 → IsScriptText (world text m k c (a ∷ rest)) t blocks
    → (ending : BlocksEnding) → BlocksEnd tells blobs s blocks m n (outside a k c) (outside b l d) ending status
    → IsScriptRun tells blobs s (world text m k c (a ∷ rest)) (world now n l d (b ∷ rest)) status
ends_by tells blobs s text now m n k l c d a b rest t blocks status one is without_frames h =
    record { ending = no_frame t blocks; ends = (is, h.0, h.1, unrun text now m n k l c d a b rest h.2) }
ends_by tells blobs s text now m n k l c d a b rest t blocks status one is without_room h =
    record { ending = no_room; ends = (h.0, unrun text now m n k l c d a b rest h.1) }
ends_by tells blobs s text now m n k l c d a b rest t blocks status one is (over told core ended) h =
    record { ending = ran t blocks told core ended; ends = (is, h.0, h.1, h.2, one) }

-- blocks that ran over frames of which it is known whether they tell
pub over_frames : (tells : Bool) (blobs : Listing) (s : RunSettings) (blocks : List (List Line)) (m n : MakerView) (x y : Outside) (told : Bool) (core : CoreSeen) (ended : Ended) (status : ℕ) (config : Config)
    → config ≡ config_of s → status ≡ run_status ended → IsOverFrames m told core
    → IsRun (cached tells blobs config) (alone (tells && told) blobs config.regions) blocks x y core ended → BlocksEnded tells blobs s blocks m n x y status
over_frames tells blobs s blocks m n x y told core ended status config is own frames h = record {
  ending = over told core ended;
  ends = (own, frames, subst (λ (k : Config). IsRun (cached tells blobs k) (alone (tells && told) blobs k.regions) blocks x y core ended) is h);
}

-- a script that was read, and how its blocks ended
pub run_of_blocks : (tells : Bool) (blobs : Listing) (s : RunSettings) (text now : TextView) (m n : MakerView) (k l : SinkView) (c d : ClockView) (a b : SourceView) (rest : List SourceView)
    (t : List ℕ) (blocks : List (List Line)) (status : ℕ) → s.workers ≤ 1 → IsScriptText (world text m k c (a ∷ rest)) t blocks
    → BlocksEnded tells blobs s blocks m n (outside a k c) (outside b l d) status
    → IsScriptRun tells blobs s (world text m k c (a ∷ rest)) (world now n l d (b ∷ rest)) status
run_of_blocks tells blobs s text now m n k l c d a b rest t blocks status one is h = ends_by tells blobs s text now m n k l c d a b rest t blocks status one is h.ending h.ends

-- a text that is no script
pub run_of_refusal : (tells : Bool) (blobs : Listing) (s : RunSettings) (text now : TextView) (m : MakerView) (k l : SinkView) (c : ClockView) (sources : List SourceView)
    (t : List ℕ) (e : ScriptError) (status : ℕ) → IsRead text.left t → IsScript (Err e) (script t) → IsRefusal e k l status
    → IsScriptRun tells blobs s (world text m k c sources) (world now m l c sources) status
run_of_refusal tells blobs s text now m k l c sources t script_error.TooLong status read is h =
    record { ending = no_script t script_error.TooLong; ends = (read, is, h, refl, refl) }
run_of_refusal tells blobs s text now m k l c sources t (script_error.BadLine line) status read is h =
    record { ending = no_script t (script_error.BadLine line); ends = (read, is, h, refl, refl) }
run_of_refusal tells blobs s text now m k l c sources t script_error.NoMemory status read is h =
    record { ending = no_room; ends = (h.0, record { sink = h.1; clock = refl; sources = refl }) }

-- ---- several workers

shared_unrun : (text now : TextView) (m n : MakerView) (k l : SinkView) (c d : ClockView) (before after : List SourceView) → outsides after l d ≡ outsides before k c → IsUnrun (world text m k c before) (world now n l d after)
shared_unrun text now m n k l c d before after same = record {
  sink = ap (λ (o : Outsides). o.sink) same;
  clock = ap (λ (o : Outsides). o.clock) same;
  sources = ap (λ (o : Outsides). o.sources) same;
}

shared_by : (tells : Bool) (blobs : Listing) (s : RunSettings) (text now : TextView) (m n : MakerView) (k l : SinkView) (c d : ClockView) (before after : List SourceView) (t : List ℕ) (blocks : List (List Line)) (status : ℕ)
    → 1 < s.workers → IsScriptText (world text m k c before) t blocks → (ending : SharedEnding) → SharedEnd tells blobs s blocks m n (outsides before k c) (outsides after l d) ending status
    → IsScriptRun tells blobs s (world text m k c before) (world now n l d after) status
shared_by tells blobs s text now m n k l c d before after t blocks status some is unframed h =
    record { ending = no_frame t blocks; ends = (is, h.0, h.1, shared_unrun text now m n k l c d before after h.2) }
shared_by tells blobs s text now m n k l c d before after t blocks status some is roomless h =
    record { ending = no_room; ends = (h.0, shared_unrun text now m n k l c d before after h.1) }
shared_by tells blobs s text now m n k l c d before after t blocks status some is (through told first last ended) h =
    record { ending = shared t blocks told first last ended; ends = (is, h.0, h.1, h.2, some) }

-- a script that was read, and how several workers ended it
pub shared_of_blocks : (tells : Bool) (blobs : Listing) (s : RunSettings) (text now : TextView) (m n : MakerView) (k l : SinkView) (c d : ClockView) (before after : List SourceView) (t : List ℕ) (blocks : List (List Line)) (status : ℕ)
    → 1 < s.workers → IsScriptText (world text m k c before) t blocks → SharedBlocksEnded tells blobs s blocks m n (outsides before k c) (outsides after l d) status
    → IsScriptRun tells blobs s (world text m k c before) (world now n l d after) status
shared_of_blocks tells blobs s text now m n k l c d before after t blocks status some is h = shared_by tells blobs s text now m n k l c d before after t blocks status some is h.ending h.ends

pub shared_over_frames : (tells : Bool) (blobs : Listing) (s : RunSettings) (blocks : List (List Line)) (m n : MakerView) (x y : Outsides) (told : Bool) (first last : PassView) (ended : Ended) (status : ℕ) (config : Config)
    → config ≡ config_of s → status ≡ run_status ended → (IsTrue m.tells → told ≡ true)
    → IsSharedRun (cached tells blobs config) (several (tells && told) blobs s.workers config.regions) blocks x y first last ended → SharedBlocksEnded tells blobs s blocks m n x y status
shared_over_frames tells blobs s blocks m n x y told first last ended status config is own tell h = record {
  ending = through told first last ended;
  ends = (own, tell, subst (λ (k : Config). IsSharedRun (cached tells blobs k) (several (tells && told) blobs s.workers k.regions) blocks x y first last ended) is h);
}
