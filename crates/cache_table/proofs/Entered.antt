-- What an entry tells, from what its parts tell.
use Rattle.std.proofs.Common.{arith, ◌≡◌, ◌⊎◌, ◌<◌, ◌+◌, ◌*◌, ◌%◌, ◌∙◌, ℕ, Bool, true, false, List, sym, subst, ap, refl, Option, Some, None, Result, Ok, Err, inl, inr}
use Rattle.std.specs.Prelude.{IfOk, IfSome, IfNone, IsTrue, ◌↔◌}
use Rattle.std.proofs.lemmas.Bool.{false≢true}
use Rattle.region_ranges.specs.Keys.{tag_of as key_tag}
use Rattle.cache_policy.specs.Policy.{PolicyView, tag_at}
use Rattle.cache_policy.specs.Ageing.{touch}
use Rattle.region_ranges.specs.declared.ranges.ByteRange.{ByteRange}
use Rattle.sparse_tracker.specs.ByteStates.{least_unused, numbers, ids}
use Rattle.region_cell.specs.Cells.{CellMetadata, Region, claim_run}
use Rattle.cache_door.specs.Machine.{gap_on, hold_on}
use Rattle.cache_door.specs.declared.hold.Hold.{Hold}
use Rattle.cache_door.specs.declared.answers.Want.{Want}
use Rattle.cache_door.specs.declared.answers.Entered.{Entered}
use Rattle.cache_door.specs.declared.answers.Entered.TheVariants.{Held, NoRoom, Gone}
use Rattle.cache_door.specs.Doors.{HoldView, hold_view}
use Rattle.cache_door.specs.Claims.{IsGap}
use Rattle.cache_table.specs.Abouts.{About}
use Rattle.cache_table.specs.declared.view.View.{View}
use Rattle.cache_table.specs.Rule.{place, count_in, holds_of}
use Rattle.cache_table.specs.Plays.{Changes, faulted}
use Rattle.cache_table.specs.Calls.{PassedOver, Faults, entered_hold, IsHeld}
use Rattle.cache_table.specs.Entries.{differs, Unmapped, IsChoice, EntersBy, OnlyLeft}
use Rattle.cache_table.proofs.Sums.{weight_yes, weight_no}
use Rattle.cache_table.proofs.Turned.{faulted_none}
use Rattle.cache_table.proofs.Chosen.{passed_none}

module _ {E : Type 0} where
  pub some_more : (r : Result (Option (Entered × Hold)) E) (P Q : Entered → Type 0) → ((e : Entered) → P e → Q e) → IfOk r (λ o. IfSome o (λ t. P t.0)) → IfOk r (λ o. IfSome o (λ t. Q t.0))
  some_more (Ok (Some t)) P Q f h = f t.0 h
  some_more (Ok None) P Q f h = tt
  some_more (Err e) P Q f h = tt

  pub none_more : (r : Result (Option (Entered × Hold)) E) (P Q R : Type 0) → (P → Q → R) → IfOk r (λ o. IfNone o P) → IfOk r (λ o. IfNone o Q) → IfOk r (λ o. IfNone o R)
  none_more (Ok (Some t)) P Q R f h k = tt
  none_more (Ok None) P Q R f h k = f h k
  none_more (Err e) P Q R f h k = tt

  pub some_is : (r : Result (Option (Entered × Hold)) E) (P : Entered × Hold → Type 0) (t : Entered × Hold) → r ≡ Ok (Some t) → IfOk r (λ o. IfSome o P) → P t
  some_is r P t e h = subst (λ (z : Result (Option (Entered × Hold)) E). IfOk z (λ o. IfSome o P)) e h

pub none_is : {T : Type 0} (o : Option T) (P : Type 0) → o ≡ None → IfNone o P → P
none_is o P e h = subst (λ (z : Option _). IfNone z P) e h

-- ---- memory

pub left_none : (want : Want) (p q : PolicyView) (v : View) → q ≡ p → OnlyLeft want p q v
left_none want p q v e = (p, inl refl, (0, subst (PassedOver 0 p) (sym e) (passed_none p)))

pub left_as : (want : Want) (p p2 q q2 : PolicyView) (v w : View) → p2 ≡ p → q2 ≡ q → w.noted ≡ v.noted → OnlyLeft want p q v → OnlyLeft want p2 q2 w
left_as want p p2 q q2 v w a b n (o, from, (m, over)) = (
  o,
  subst (λ (z : PolicyView). (o ≡ z) ⊎ Unmapped want w.noted z o) (sym a) (subst (λ (l : List (ℕ × ℕ × ℕ)). (o ≡ p) ⊎ Unmapped want l p o) (sym n) from),
  (m, subst (PassedOver m o) (sym b) over),
)

-- ---- the mount

pub not_gone : (b : Bool) (w : ℕ) → b ≡ false → (IsTrue b ↔ (w ≡ 2)) → w ≡ 2 → ⊥
not_gone b w f i e = false≢true (sym f ∙ i.1 e)

pub room_or_gone : NoRoom ≡ Gone → ⊥
room_or_gone e = cc

pub held_stays : (a : About) (want : Want) (e : Entered) (h : Hold) → IsHeld a want (e, h) → e ≡ Gone → ⊥
held_stays a want e h i g = true_false (ap (λ (t : HoldView). t.held) (i.0 ∙ ap (entered_hold want) g))
  where
    true_false : true ≡ false → ⊥
    true_false z = cc

-- ---- the entry, told of the view behind the cache's turn

pub by_as : (a : About) (want : Want) (now : ℕ) (e : Entered) (p p2 q q2 : PolicyView) (v w : View) → p2 ≡ p → q2 ≡ q → w.noted ≡ v.noted → w.found_held ≡ v.found_held → w.last_region ≡ v.last_region → w.cell ≡ v.cell → EntersBy a want now e p q v → EntersBy a want now e p2 q2 w
by_as a want now (Held r gap) p p2 q q2 v w ep eq en ef el ec (inl m) = inl record {
  mapped = ap (λ (z : PolicyView). tag_at z r) ep ∙ m.mapped;
  noted = ap (differs (place r) want) en ∙ m.noted;
  touched = eq ∙ m.touched ∙ ap (touch r now) (sym ep);
  cell = el ∙ m.cell;
  claimed = m.claimed ∙ ap (λ (c : CellMetadata). claim_run a.config.range want.sub c.region) (sym ec);
}
by_as a want now (Held r gap) p p2 q q2 v w ep eq en ef el ec (inr o) = inr record {
  other = λ s at. ap (differs (place s) want) en ∙ o.other s (ap (λ (z : PolicyView). tag_at z s) (sym ep) ∙ at);
  mapped = ap (λ (z : PolicyView). tag_at z r) eq ∙ o.mapped;
  claimed = o.claimed;
  choice = subst (λ (z : PolicyView). (tag_at z r ≡ Some (key_tag want.key)) ⊎ IsChoice r z w.found_held) (sym ep) (subst (λ (l : List ℕ). (tag_at p r ≡ Some (key_tag want.key)) ⊎ IsChoice r p l) (sym ef) o.choice);
  others = λ s t ne other at. ap (λ (z : PolicyView). tag_at z s) eq ∙ o.others s t ne other (ap (λ (z : PolicyView). tag_at z s) (sym ep) ∙ at);
}
by_as a want now NoRoom p p2 q q2 v w ep eq en ef el ec n = record {
  held = λ r h. subst (λ (l : List ℕ). 0 < count_in (place r) l) (sym ef) (n.held r h);
  other = λ s at. ap (differs (place s) want) en ∙ n.other s (ap (λ (z : PolicyView). tag_at z s) (sym ep) ∙ at);
  others = λ s t ne at. ap (λ (z : PolicyView). tag_at z s) eq ∙ n.others s t ne (ap (λ (z : PolicyView). tag_at z s) (sym ep) ∙ at);
}
by_as a want now Gone p p2 q q2 v w ep eq en ef el ec h = eq ∙ h ∙ sym ep

-- ---- a region that was chosen

pub changes_new : (k w tag : ℕ) (g : Option Hold) (h : Hold) → g ≡ None → place h.region ≡ k → h.tag ≡ tag → w % 2 ≡ 0 → holds_of w ≡ 0 → Changes k (w + 1) (tag * 256 + 2) g (Some h)
changes_new k w tag g h none at same even free = subst (λ (o : Option Hold). Changes k (w + 1) (tag * 256 + 2) o (Some h)) (sym none) record {
  counted = λ p. omega (arith, weight_yes k (λ _. 1) (Some h) at, weight_no k (λ _. 1) None (λ e. omega arith), even, free);
  elsewhere = λ j f p ne. weight_no j f (Some h) (λ e. ne (sym e ∙ at)) ∙ sym (weight_no j f None (λ e. omega arith));
  here = λ p e. omega (arith, same);
  there = λ p ne. absurd (ne at);
  tag = λ p q. absurd (omega (arith, even, free, q));
}

run_view : (want : Want) (r ticket id : ℕ) (run : Option ByteRange) → hold_view (Some (let h : Hold = record { region = r; tag = key_tag want.key; ticket = ticket; sub = want.sub; gap = gap_on id run } in h)) ≡ entered_hold want (Held r run)
run_view want r ticket id None = refl
run_view want r ticket id (Some run) = refl

pub held_new : (a : About) (want : Want) (r range : ℕ) (h : Hold) (gap : Option ByteRange) (c : Region) → h ≡ hold_on range r want c → gap ≡ claim_run range want.sub c → range ≡ a.config.range → r < a.config.regions → IfSome gap (IsGap range want.sub want.len) → IsHeld a want (Held r gap, h)
held_new a want r range h gap c hold run same near inside = (
  ap (λ (z : Hold). hold_view (Some z)) hold ∙ run_view want r (least_unused (numbers c.tracker.tickets)) (least_unused (ids c.tracker.gaps)) (claim_run range want.sub c) ∙ ap (λ (o : Option ByteRange). entered_hold want (Held r o)) (sym run),
  (near, subst (λ (n : ℕ). IfSome gap (IsGap n want.sub want.len)) same inside),
  subst (λ (n : ℕ). n < a.config.regions) (sym (ap (λ (z : Hold). z.region) hold)) near,
)

pub faults_on : (a : About) (u v w : View) (x y : ℕ) → Faults a ⊥ u v → w.faults ≡ v.faults + faulted x y → (IsTrue a.steady → (x ≡ 0) × (y ≡ 0)) → Faults a ⊥ u w
faults_on a u v w x y p e zero = record {
  later = omega (arith, p.later, e);
  rose = λ f. absurd f;
  steady = λ s. ((let z = zero s in omega (arith, (p.steady s).0, e, faulted_none x y z.0 z.1)), λ f. f);
}
