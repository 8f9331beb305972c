-- What a pass has when a worker's share of the cache has come back to it.
use Rattle.std.specs.Prelude.{ℕ, ◌≡◌, ◌<◌, ◌+◌, ◌++◌, true, List, [], ◌∷◌, length, Option, Some, None}
use Rattle.cache_door.specs.Doors.{Works}
use Rattle.cache_reader.specs.Reports.{Grew}
use Rattle.cache_table.specs.Calls.{marks}
use Rattle.cache_table.specs.Views.{PassView}

-- It has what both had. With all 64 shares it has itself unmounted each mount that it has seen gone.
pub record Joined (p q r : PassView) : Type 0 where
  pub shares : r.view.shares ≡ p.view.shares + q.view.shares
  pub unmounted : r.view.unmounted ≡ p.view.unmounted ++ q.view.unmounted
  pub gone : r.view.gone ≡ p.view.gone ++ q.view.gone
  pub work : Works p.work r.work q.work
  pub whole : r.view.shares ≡ 64 → (m : ℕ) → marks r.view.gone m ≡ true → marks r.view.unmounted m ≡ true

-- the share was there
abbrev pub JoinedWith : PassView → Option PassView → PassView → Type 0
JoinedWith p None r = ⊥
JoinedWith p (Some q) r = Joined p q r

-- ---- all workers' shares

-- numbers of passes, added up
abbrev pub sum_of : (PassView → ℕ) → List (Option PassView) → ℕ
sum_of f [] = 0
sum_of f (None ∷ os) = sum_of f os
sum_of f (Some p ∷ os) = f p + sum_of f os

-- lists of passes, one behind another
abbrev pub lists_of : (PassView → List ℕ) → List (Option PassView) → List ℕ
lists_of f [] = []
lists_of f (None ∷ os) = lists_of f os
lists_of f (Some p ∷ os) = f p ++ lists_of f os

-- The pass has what it and all of these had; each count of work stops at its last value. Where shares came back and it has all 64, it has
-- itself unmounted each mount that it has seen gone.
pub record JoinedAll (p : PassView) (os : List (Option PassView)) (r : PassView) : Type 0 where
  pub shares : r.view.shares ≡ p.view.shares + sum_of (λ q. q.view.shares) os
  pub unmounted : r.view.unmounted ≡ p.view.unmounted ++ lists_of (λ q. q.view.unmounted) os
  pub gone : r.view.gone ≡ p.view.gone ++ lists_of (λ q. q.view.gone) os
  pub decays : Grew p.work.decays r.work.decays (sum_of (λ q. q.work.decays) os)
  pub clears : Grew p.work.clears r.work.clears (sum_of (λ q. q.work.clears) os)
  pub stored : Grew p.work.stored r.work.stored (sum_of (λ q. q.work.stored) os)
  pub turned : Grew p.work.turned_away r.work.turned_away (sum_of (λ q. q.work.turned_away) os)
  pub whole : 0 < length os → r.view.shares ≡ 64 → (m : ℕ) → marks r.view.gone m ≡ true → marks r.view.unmounted m ≡ true
