-- A core that was made anew, as its maker says it.
use Rattle.std.proofs.Common.{◌≡◌, ◌∙◌, ℕ, List, [], Bool, ap, map, sym}
use Rattle.std.specs.Prelude.{if◌then◌else◌}
use Rattle.std.specs.List.{list_all}
use Rattle.region_ranges.specs.declared.keys.Config.{Config}
use Rattle.cache_outside.specs.Frames.{FrameView}
use Rattle.cache_door.specs.Machine.{State, is_gone, new_state}
use Rattle.cache_door.specs.Cores.{CoreView, state_of, first_state}
use Rattle.script_run.specs.Blocks.{IsFirst, IsNew}
use Rattle.simpletext_stored.proofs.Listed.{none_in}

as_first : (config : Config) (told : Bool) (frames : List (List ℕ)) (core : CoreView) → state_of core ≡ new_state config told frames 1 → IsFirst core.config (state_of core)
as_first config told frames core e = (told, frames, e ∙ ap (λ (c : Config). new_state c told frames 1) (ap (λ (s : State). s.config) (sym e)))

pub new_core : {F : Type 0} (config : Config) (view : F → FrameView) (frames : List F) (core : CoreView) → state_of core ≡ first_state config view frames 1 → IsNew core
new_core config view frames core e = record {
  first = as_first config (list_all (λ f. (view f).tells) frames) (map (λ f. if list_all (λ g. (view g).tells) frames then (view f).bytes else []) frames) core e;
  idle = ap (λ (s : State). s.holds) e;
  mounts = λ m. ap (λ (s : State). is_gone s m) e ∙ none_in 4096 m;
  evictions = ap (λ (s : State). s.policy.evictions) e;
  promotions = ap (λ (s : State). s.policy.promotions) e;
  demotions = ap (λ (s : State). s.policy.demotions) e;
}
