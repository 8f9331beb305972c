-- What the calls of a door owe the trait.
use Rattle.std.proofs.Common.{arith, ◌≡◌, ◌≢◌, ℕ, true, List, ◌∷◌, ap, refl, Result, Ok, Err, inl, inr}
use Rattle.std.specs.Prelude.{◌==◌, IfOk, OnOk, OnErr, IsErr}
use Rattle.std.proofs.lemmas.Bool.{cases_Bool, eq-eqb}
use Rattle.cache_door.specs.Machine.{State}
use Rattle.cache_door.specs.declared.answers.Entered.{Entered}
use Rattle.cache_door.specs.declared.answers.Entered.TheVariants.{Gone}
use Rattle.cache_door.specs.Doors.{FrameFails, LacksMemory, with_mount}
use Rattle.cache_table.specs.Abouts.{About}
use Rattle.cache_table.specs.Calls.{Faults, marks}
use Rattle.cache_table.specs.Views.{PassView}
use Rattle.cache_table.specs.Doors.{view_at}

-- what is said of the state of a door that does not tell it
pub if_ok : {T E : Type 0} (r : Result T E) → IfOk r (λ _. Unit {0})
if_ok (Ok x) = tt
if_ok (Err e) = tt

pub on_ok : {T E P : Type 0} (r : Result T E) → P → OnOk r P
on_ok (Ok x) p = p
on_ok (Err e) p = tt

pub on_err : {T E P : Type 0} (r : Result T E) → P → OnErr r P
on_err (Ok x) p = tt
on_err (Err e) p = p

pub lacks_memory : {E : Type 0} (r : Result Entered E) (a b : About) (p q : PassView) (m : ℕ → State → Entered) → (r ≢ Ok Gone → q.view.gone ≡ p.view.gone) → OnErr r (LacksMemory (view_at a p) (view_at b q) m)
lacks_memory (Ok e) a b p q m h = tt
lacks_memory {E} (Err x) a b p q m h = record { state = refl; seen = ap marks (h other); held = tt }
  where
    other : (let r : Result Entered E = Err x in r) ≢ Ok Gone
    other e = cc

pub frame_fails : (a b : About) (p q : PassView) (X : Type 0) → Faults a X p.view q.view → X → FrameFails (view_at a p) (view_at b q)
frame_fails a b p q X f x = record { rose = (let r = f.rose x in omega (arith, r)); unsteady = λ s. (f.steady s).1 x }

pub store_fails : {T E : Type 0} (r : Result T E) (a b : About) (p q : PassView) → Faults a (IsErr r) p.view q.view → OnErr r (FrameFails (view_at a p) (view_at b q))
store_fails (Ok x) a b p q f = tt
store_fails (Err e) a b p q f = frame_fails a b p q _ f refl

pub marks_first : (m : ℕ) (l : List ℕ) → marks (m ∷ l) m ≡ true
marks_first m l = rw (eq-eqb m m refl) refl

pub marks_more : (mount m : ℕ) (l : List ℕ) → marks (mount ∷ l) m ≡ with_mount mount (marks l) m
marks_more mount m l = elim (cases_Bool (m == mount)) [
  | inl t ↦ rw t refl
  | inr t ↦ rw t refl
]
