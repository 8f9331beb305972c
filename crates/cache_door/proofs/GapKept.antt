-- Another actor's step leaves a hold as it is, and the bytes of its gap pending.
use Rattle.std.proofs.Common.{arith, ◌≡◌, ℕ, Bool, List, sym, ◌∙◌, ap, inl, inr, refl, get_or, Option, Some, None}
use Rattle.std.specs.Prelude.{◌==◌}
use Rattle.std.proofs.lemmas.Bool.{cases_Bool}
use Rattle.std.proofs.lemmas.List.{get_or-set_other}
use Rattle.region_ranges.specs.Keys.{tag_of}
use Rattle.freq_lists.specs.Lists.{head}
use Rattle.sparse_tracker.specs.declared.gaps.OpenGap.{OpenGap}
use Rattle.cache_policy.specs.Policy.{PolicyView, find}
use Rattle.region_cell.specs.Cells.{len_of}
use Rattle.cache_door.specs.declared.answers.Want.{Want}
use Rattle.cache_door.specs.declared.hold.Hold.{Hold}
use Rattle.cache_door.specs.Machine as machine
use Rattle.cache_door.specs.Machine.{State, Event, Answer, Enter, TakeBytes, Store, Fail, Leave, Look, Decay, Clear, Live, Unmount, Step, outcome, cell_at, hold_at, is_gone, enter, enter_at, place, make_room}
use Rattle.cache_door.specs.Laws.{GapKept}
use Rattle.cache_door.proofs.Found.{found_gap}
use Rattle.cache_door.proofs.OneOwner.{placed}

module _ (a b : ℕ) (other : ¬ (b ≡ a)) where
  hold_other : (q : ℕ) (want : Want) (s : State) → hold_at (machine.hold a q want s).1 b ≡ hold_at s b
  hold_other q want s = get_or-set_other s.holds a b _ None other

  place_other : (o : Option ℕ) (p : PolicyView) (want : Want) (now : ℕ) (s : State) → hold_at (place a o p want now s).1 b ≡ hold_at s b
  place_other None p want now s = refl
  place_other (Some q) p want now s = get_or-set_other s.holds a b _ None other

  found_other : (o : Option ℕ) (want : Want) (now : ℕ) (s : State) → hold_at (enter_at o a want now s).1 b ≡ hold_at s b
  found_other None want now s = place_other (head (make_room s).free) (make_room s) want now s
  found_other (Some q) want now s = elim (cases_Bool (len_of (cell_at s q).region == want.len)) [
    | inl y ↦ rw y (get_or-set_other s.holds a b _ None other)
    | inr n ↦ rw n refl
  ]

  enter_other : (mount : ℕ) (want : Want) (now : ℕ) (s : State) → hold_at (enter a mount want now s).1 b ≡ hold_at s b
  enter_other mount want now s = elim (cases_Bool (is_gone s mount)) [
    | inl t ↦ rw t refl
    | inr f ↦ rw f (found_other (find (tag_of want.key) s.policy) want now s)
  ]

  store_other : (o : Option Hold) (piece : List ℕ) (s : State) → hold_at (machine.store a o piece s) b ≡ hold_at s b
  store_other None piece s = refl
  store_other (Some k) piece s = get_or-set_other s.holds a b _ None other

  fail_other : (o : Option Hold) (s : State) → hold_at (machine.fail a o s) b ≡ hold_at s b
  fail_other None s = refl
  fail_other (Some k) s = get_or-set_other s.holds a b _ None other

  leave_other : (o : Option Hold) (s : State) → hold_at (machine.leave a o s) b ≡ hold_at s b
  leave_other None s = refl
  leave_other (Some k) s = get_or-set_other s.holds a b _ None other

  event_other : (e : Event) (s : State) → hold_at (outcome s a e).1 b ≡ hold_at s b
  event_other (Enter mount want now) s = enter_other mount want now s
  event_other TakeBytes s = refl
  event_other (Store piece) s = store_other (hold_at s a) piece s
  event_other Fail s = fail_other (hold_at s a) s
  event_other Leave s = leave_other (hold_at s a) s
  event_other (Look q want) s = refl
  event_other (Decay now) s = refl
  event_other (Clear manifest) s = refl
  event_other (Live mount) s = refl
  event_other (Unmount mount manifest) s = refl

  step_other : (s t : State) (e : Event) (answer : Answer) → Step s a e answer t → hold_at t b ≡ hold_at s b
  step_other s t e answer (inl step) = ap (λ (x : Answer × State). hold_at x.1 b) (sym step) ∙ event_other e s
  step_other s t e answer (inr refused) = ap (λ (l : List (Option Hold)). get_or l b None) refused.1.holds

pub gap_kept : (tells : Bool) (files : ℕ → ℕ → List ℕ) → GapKept tells files
gap_kept tells files s t a b i h e answer good step other held low high =
    let now : hold_at t b ≡ Some h = step_other a b other s t e answer step ∙ held in
    let x = placed (λ (q : OpenGap). q.id == h.gap.id) (cell_at t h.region).region.tracker.gaps h.gap (found_gap t b h good now (omega (arith, low, high))) in
    (now, (good.cells h.region (good.holds b h now).region).tracker.gaps.byte_states x.0 h.gap i x.1 low high)
