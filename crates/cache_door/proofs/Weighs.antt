-- What lists of holds weigh, and what follows where the holds on a region weigh what its tickets and gaps do.
use Rattle.std.proofs.Common.{arith, ◌≡◌, ◌≢◌, ◌<◌, ◌≤◌, ◌+◌, ℕ, zero, suc, true, false, List, [], ◌∷◌, refl, length, set, get_or, Option, Some, None}
use Rattle.std.specs.Prelude.{◌==◌}
use Rattle.std.specs.List.{list_any}
use Rattle.std.proofs.lemmas.Bool.{or_parts}
use Rattle.std.proofs.lemmas.Bool.Decides.{nat_tests}
use Rattle.sparse_tracker.specs.Weights.{total}
use Rattle.cache_door.specs.declared.hold.Hold.{Hold}
use Rattle.cache_door.specs.Machine.{is_on}
use Rattle.cache_door.specs.Good.{weigh_hold}

-- an entry of a list weighs at most what the list does
pub total-at : {X : Type 0} (f : X → ℕ) (xs : List X) (i : ℕ) (d : X) → i < length xs → f (get_or xs i d) ≤ total f xs
total-at f [] i d h = absurd (omega arith)
total-at f (x ∷ xs) zero d h = omega arith
total-at f (x ∷ xs) (suc i) d h = let k = total-at f xs i d (omega arith) in omega (arith, k)

-- an entry is replaced
pub total-set : {X : Type 0} (f : X → ℕ) (xs : List X) (i : ℕ) (x d : X) → i < length xs → total f (set xs i x) + f (get_or xs i d) ≡ total f xs + f x
total-set f [] i x d h = absurd (omega arith)
total-set f (y ∷ ys) zero x d h = omega arith
total-set f (y ∷ ys) (suc i) x d h = let k = total-set f ys i x d (omega arith) in omega (arith, k)

-- what a hold weighs by itself
abbrev pub weigh : (Hold → ℕ) → Option Hold → ℕ
weigh f None = 0
weigh f (Some h) = f h

-- nothing, or a hold on this region
abbrev pub IsOn : ℕ → Option Hold → Type 0
IsOn r None = Unit {0}
IsOn r (Some h) = h.region ≡ r

pub weigh_here : (r : ℕ) (f : Hold → ℕ) (o : Option Hold) → IsOn r o → weigh_hold r f o ≡ weigh f o
weigh_here r f None e = refl
weigh_here r f (Some h) e = let t : (h.region == r) ≡ true = grind (arith, nat_tests) in rw t refl

pub weigh_there : (k r : ℕ) (f : Hold → ℕ) (o : Option Hold) → IsOn r o → r ≢ k → weigh_hold k f o ≡ 0
weigh_there k r f None e n = refl
weigh_there k r f (Some h) e n = let t : (h.region == k) ≡ false = grind (arith, nat_tests) in rw t refl

-- nobody holds the region: the holds weigh nothing there
weigh_off : (r : ℕ) (f : Hold → ℕ) (o : Option Hold) → is_on r o ≡ false → weigh_hold r f o ≡ 0
weigh_off r f None e = refl
weigh_off r f (Some h) e = rw e refl

pub total_off : (r : ℕ) (f : Hold → ℕ) (os : List (Option Hold)) → list_any (is_on r) os ≡ false → total (weigh_hold r f) os ≡ 0
total_off r f [] e = refl
total_off r f (o ∷ os) e =
    let n = or_parts (is_on r o) (list_any (is_on r) os) e in
    omega (arith, weigh_off r f o n.0, total_off r f os n.1)
