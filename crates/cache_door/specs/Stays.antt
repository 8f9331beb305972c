-- What no call changes, over several calls.
use Rattle.std.specs.Prelude.{◌≡◌, ℕ, Some, refl}
use Rattle.std.proofs.Common.{◌∙◌, subst}
use Rattle.std.proofs.Math.Nat.{le_refl, le_trans}
use Rattle.cache_door.specs.Counters.{CountersRisen, counters_same, counters_on}
use Rattle.cache_door.specs.Machine.{State, is_gone}
use Rattle.cache_door.specs.Doors.{Grown, DoorLater}
use Rattle.cache_door.specs.Cores.{CoreView, state_of, all_faults, Later, door_of}

pub later_same : (x : CoreView) → Later x x
later_same x = record { config = refl; actors = refl; tell = refl; steady = refl; faults = le_refl (all_faults x.cells); stands = λ t. refl; counters = counters_same x.policy }

pub later_on : {x y z : CoreView} → Later x y → Later y z → Later x z
later_on {x} {y} {z} a b = record {
  config = b.config ∙ a.config;
  actors = b.actors ∙ a.actors;
  tell = b.tell ∙ a.tell;
  steady = b.steady ∙ a.steady;
  faults = le_trans a.faults b.faults;
  stands = λ t. b.stands (a.steady ∙ t) ∙ a.stands t;
  counters = counters_on x.policy y.policy z.policy a.counters b.counters;
}

some_is : {s t : State} → Some s ≡ Some t → s ≡ t
some_is e = cc

-- what a door of a core tells of it later
pub door_later : (x y : CoreView) (a b : ℕ) → b ≡ a → Later x y → Grown (is_gone (state_of x)) (is_gone (state_of y)) → DoorLater (door_of x a) (door_of y b)
door_later x y a b same later grown = record {
  config = later.config;
  frames_tell = later.tell;
  frames_steady = later.steady;
  actor = same;
  seen = grown;
  faults = later.faults;
  steady = later.stands;
  counters = λ s t e f.
      let P : State → Type 0 = λ q. CountersRisen q.policy t.policy in
      let Q : State → Type 0 = λ q. CountersRisen x.policy q.policy in
      subst P (some_is e) (subst Q (some_is f) later.counters);
}
