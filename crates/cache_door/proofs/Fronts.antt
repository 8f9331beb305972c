-- Where the regions lie, and that nobody holds the one that an entry for another key takes.
use Rattle.std.proofs.Common.{arith, ◌≡◌, ◌<◌, ℕ, Bool, true, false, List, sym, subst, ◌∙◌, inl, inr, refl, length, Option, Some, None}
use Rattle.std.specs.Prelude.{not}
use Rattle.std.proofs.lemmas.Bool.{cases_Bool, cases_lt, false≢true}
use Rattle.freq_lists.specs.Lists.{is_in, head}
use Rattle.freq_lists.proofs.Counts.{is_in_times}
use Rattle.cache_policy.specs.Policy.{PolicyView, tag_at}
use Rattle.cache_policy.specs.Ageing.{candidates}
use Rattle.cache_policy.specs.Kept as policy
use Rattle.cache_door.specs.declared.hold.Hold.{Hold}
use Rattle.cache_door.specs.Machine.{State, is_held, is_held_by, unheld_by, make_room}
use Rattle.cache_door.specs.Good.{Good}
use Rattle.cache_door.proofs.Places.{head_passes}
use Rattle.cache_door.proofs.Mapping.{free_unheld, head_in}
use Rattle.cache_door.proofs.Calls.{mapped_inside}
use Rattle.cache_door.proofs.Walks.{choose_free, choose_leaving, choose_candidate}
use Rattle.cache_policy.proofs.Places.{candidate_times}

pub unheld_first : (holds : List (Option Hold)) (rs : List ℕ) (r : ℕ) → head (unheld_by holds rs) ≡ Some r → is_held_by holds r ≡ false
unheld_first holds rs r e = let h = (head_passes (λ m. not (is_held_by holds m)) r rs e).0 in elim (cases_Bool (is_held_by holds r)) [
  | inl t ↦ absurd (false≢true (rw t at h))
  | inr f ↦ f
]

pub placed_inside : (p : PolicyView) (r : ℕ) → policy.IsGood p → 0 < policy.places p r → r < length p.tags
placed_inside p r kept h = elim (cases_lt r (length p.tags)) [
  | inl l ↦ l
  | inr g ↦ absurd (let z = kept.none_else r g in omega (arith, z, h))
]

module _ {tells : Bool} {files : ℕ → ℕ → List ℕ} (s : State) (good : Good tells files s) where
  tagged : (r : ℕ) → r < length s.policy.tags → r < length s.cells
  tagged r h = omega (arith, h, good.counts.tags, good.counts.cells)

  pub mapped_there : (r tag : ℕ) → tag_at s.policy r ≡ Some tag → r < length s.cells
  mapped_there r tag e = tagged r (mapped_inside s.policy r tag e)

  in_free : (r : ℕ) → is_in r s.policy.free ≡ true → r < length s.cells
  in_free r e = let t = is_in_times r s.policy.free e in tagged r (placed_inside s.policy r good.policy (omega (arith, t)))

  -- a region that is not held, and one of the cache's
  abbrev IsOpen : ℕ → Type 0
  IsOpen r = (r < length s.cells) × (is_held s r ≡ false)

  pub free_there : (r : ℕ) → head s.policy.free ≡ Some r → IsOpen r
  free_there r e = let i = head_in r s.policy.free e in (in_free r i, free_unheld s r good i)

  in_leaving : (r : ℕ) → head (unheld_by s.holds s.policy.leaving) ≡ Some r → IsOpen r
  in_leaving r e =
      let t = is_in_times r s.policy.leaving (head_passes (λ m. not (is_held_by s.holds m)) r s.policy.leaving e).1 in
      (tagged r (placed_inside s.policy r good.policy (omega (arith, t))), unheld_first s.holds s.policy.leaving r e)

  in_candidates : (r : ℕ) → head (unheld_by s.holds (candidates s.policy)) ≡ Some r → IsOpen r
  in_candidates r e =
      let t = is_in_times r (candidates s.policy) (head_passes (λ m. not (is_held_by s.holds m)) r (candidates s.policy) e).1 in
      let c = candidate_times r s.policy.lists in
      (tagged r (placed_inside s.policy r good.policy (omega (arith, t, c))), unheld_first s.holds (candidates s.policy) r e)

  chosen : (x : Option ℕ) (r q : ℕ) → x ≡ Some r → x ≡ Some q → q ≡ r
  chosen x r q e f = cc

  by_leaving : (o : Option ℕ) (r : ℕ) → head (unheld_by s.holds s.policy.leaving) ≡ o → head s.policy.free ≡ None → head (make_room s).free ≡ Some r → IsOpen r
  by_leaving None r h n e = in_candidates r (sym (choose_candidate s.holds s.policy n h) ∙ e)
  by_leaving (Some q) r h n e = subst IsOpen (chosen (head (make_room s).free) r q e (choose_leaving s.holds s.policy q n h)) (in_leaving q h)

  by_free : (o : Option ℕ) (r : ℕ) → head s.policy.free ≡ o → head (make_room s).free ≡ Some r → IsOpen r
  by_free None r h e = by_leaving (head (unheld_by s.holds s.policy.leaving)) r refl h e
  by_free (Some q) r h e = subst IsOpen (chosen (head (make_room s).free) r q e (choose_free s.holds s.policy q h)) (free_there q h)

  -- the front free region, after room was made
  pub front_there : (r : ℕ) → head (make_room s).free ≡ Some r → IsOpen r
  front_there r e = by_free (head s.policy.free) r refl e
