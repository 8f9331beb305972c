-- What clauses see of one pass's door, and what every call on it keeps.
use Rattle.std.specs.Prelude.{◌≡◌, ◌≤◌, IsTrue, Option, Some, None}
use Rattle.std.proofs.Common.{refl, ◌∙◌, ap, sym, subst}
use Rattle.std.proofs.Math.Nat.{le_refl, le_trans}
use Rattle.cache_door.specs.Machine.{State}
use Rattle.cache_door.specs.Doors.{DoorView, DoorLater, Grown, hold_view}
use Rattle.cache_table.specs.Abouts.{About}
use Rattle.cache_table.specs.Calls.{marks}
use Rattle.cache_table.specs.Views.{PassView}

-- the state of the whole cache is not told
abbrev pub view_at : About → PassView → DoorView
view_at a p = record {
  config = a.config;
  frames_tell = a.tells;
  frames_steady = a.steady;
  hold = hold_view p.view.hold;
  work = p.work;
  frame_faults = p.view.faults;
  seen_gone = marks p.view.gone;
  unmounted = marks p.view.unmounted;
  state = None;
  actor = 0;
}

-- it is the same pass, with as many shares; no mount that was seen gone is taken away, and the count of faults does not fall
pub record PassStays (a : About) (x y : PassView) : Type 0 where
  pub id : y.id ≡ x.id
  pub about : y.view.about ≡ x.view.about
  pub shares : y.view.shares ≡ x.view.shares
  pub seen : Grown (marks x.view.gone) (marks y.view.gone)
  pub faults : x.view.faults ≤ y.view.faults
  pub steady : IsTrue a.steady → y.view.faults ≡ x.view.faults

pub pass_same : (a : About) (x : PassView) → PassStays a x x
pass_same a x = record { id = refl; about = refl; shares = refl; seen = λ m h. h; faults = le_refl x.view.faults; steady = λ s. refl }

pub pass_on : (a b : About) (x y z : PassView) → b ≡ a → PassStays a x y → PassStays b y z → PassStays a x z
pass_on a b x y z e p q = record {
  id = q.id ∙ p.id;
  about = q.about ∙ p.about;
  shares = q.shares ∙ p.shares;
  seen = λ m h. q.seen m (p.seen m h);
  faults = le_trans p.faults q.faults;
  steady = λ s. q.steady (subst (λ (c : About). IsTrue c.steady) (sym e) s) ∙ p.steady s;
}

none_some : {s : State} → (let o : Option State = None in o) ≡ Some s → ⊥
none_some e = cc

pub pass_later : (a b : About) (x y : PassView) → b ≡ a → PassStays a x y → DoorLater (view_at a x) (view_at b y)
pass_later a b x y e p = record {
  config = ap (λ (c : About). c.config) e;
  frames_tell = ap (λ (c : About). c.tells) e;
  frames_steady = ap (λ (c : About). c.steady) e;
  actor = refl;
  seen = p.seen;
  faults = p.faults;
  steady = p.steady;
  counters = λ s t h k. absurd (none_some h);
}
