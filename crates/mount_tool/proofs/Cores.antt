-- A new core with one actor.
use Rattle.std.proofs.Common.{◌≡◌, Bool, List, [], ◌∷◌, true, ap, refl, ◌∙◌, arith}
use Rattle.std.specs.Prelude.{IsTrue, All}
use Rattle.std.specs.List.{list_all}
use Rattle.std.proofs.lemmas.Bool.{and_parts}
use Rattle.std.proofs.lemmas.List.Sums.{list_all-from_AllPass}
use Rattle.region_ranges.specs.declared.keys.Config.{Config}
use Rattle.cache_outside.specs.Frames.{FrameView, MakerView}
use Rattle.sparse_tracker.specs.Weights.{total}
use Rattle.cache_door.specs.Machine.{State}
use Rattle.cache_door.specs.Cores.{CoreView, Later, state_of, all_tell, all_steady, all_faults, first_state}
use Rattle.script_run.specs.Runs.{core_seen}
use Rattle.mount_tool.specs.Runs.{IsOverFrames}

pub new_config : {F : Type 0} (config : Config) (view : F → FrameView) (frames : List F) (core : CoreView) → state_of core ≡ first_state config view frames 1 → core.config ≡ config
new_config config view frames core is = ap (λ (s : State). s.config) is

-- the frames of a new core tell where all of those that it was made over do
pub new_tell : {F : Type 0} (config : Config) (view : F → FrameView) (frames : List F) (core : CoreView) → state_of core ≡ first_state config view frames 1
    → All (λ f. IsTrue (view f).tells) frames → all_tell core.cells ≡ true
new_tell config view frames core is all = ap (λ (s : State). s.told) is ∙ list_all-from_AllPass (λ f. (view f).tells) frames all

-- steady frames have never failed
none_failed : {F : Type 0} (view : F → FrameView) → ((f : F) → IsTrue (view f).steady → (view f).faults ≡ 0) → (frames : List F) → list_all (λ f. (view f).steady) frames ≡ true
    → total (λ f. (view f).faults) frames ≡ 0
none_failed view unfailed [] all = refl
none_failed view unfailed (f ∷ fs) all =
    let both = and_parts (view f).steady (list_all (λ g. (view g).steady) fs) all in
    let own = unfailed f both.0 in
    let rest = none_failed view unfailed fs both.1 in
    omega (arith, own, rest)

-- a core over frames that a maker made, before and behind a run
pub over_made : {F : Type 0} (m : MakerView) (view : F → FrameView) (frames : List F) (v w : CoreView) (told : Bool) → ((f : F) → IsTrue (view f).steady → (view f).faults ≡ 0)
    → (IsTrue m.tells → told ≡ true) → (IsTrue m.steady → All (λ f. IsTrue (view f).steady) frames)
    → all_steady v.cells ≡ list_all (λ f. (view f).steady) frames → all_faults v.cells ≡ total (λ f. (view f).faults) frames → Later v w
    → IsOverFrames m told (core_seen v w)
over_made m view frames v w told unfailed tell steady all sum later = record {
  tell = tell;
  steady = λ s.
      let every : list_all (λ f. (view f).steady) frames ≡ true = list_all-from_AllPass (λ f. (view f).steady) frames (steady s) in
      let before : all_faults v.cells ≡ 0 = sum ∙ none_failed view unfailed frames every in
      let each : all_steady v.cells ≡ true = all ∙ every in
      (before, later.stands each ∙ before);
}
