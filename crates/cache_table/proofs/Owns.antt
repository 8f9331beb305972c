-- What the holds on a region tell of its cell's tickets and gaps.
use Rattle.std.proofs.Common.{arith, ◌≡◌, ◌<◌, ◌≤◌, ℕ, true, List, [], ◌∷◌, ap, refl, eq-eqb, Option, Some, None, inl, inr}
use Rattle.std.specs.Prelude.{◌==◌, nat_lt}
use Rattle.std.proofs.lemmas.Bool.{cases_Bool}
use Rattle.std.proofs.lemmas.Bool.Decides.{nat_tests}
use Rattle.sparse_tracker.specs.ByteStates.{Tracker}
use Rattle.sparse_tracker.specs.Weights.{TicketWeights, GapWeights, total, by_ticket, by_gap, tickets_weigh, gaps_weigh, one_at}
use Rattle.sparse_tracker.specs.Kept as tracker
use Rattle.cache_door.specs.declared.hold.Hold.{Hold}
use Rattle.cache_table.specs.Rule.{place, Part, tickets, gaps, by_hold, by_tracker, at_of, value, weight}
use Rattle.cache_table.specs.Plays.{HasHold, HasHolds}
use Rattle.cache_table.proofs.Sums.{weight_yes}

pub value_one : (o : Option Hold) → value (λ _. 1) o ≤ 1
value_one None = omega arith
value_one (Some h) = omega arith

pub value_is : (o : Option Hold) → 0 < at_of o → value (λ _. 1) o ≡ 1
value_is None p = absurd (omega arith)
value_is (Some h) p = refl

-- one gap a hold
pub gap_less : (k : ℕ) (o : Option Hold) → weight k (by_hold gaps (λ _ _ _. 1)) o ≤ weight k (λ _. 1) o
gap_less k None = elim (cases_Bool (0 == k)) [
  | inl t ↦ rw t (omega arith)
  | inr t ↦ rw t (omega arith)
]
gap_less k (Some h) = elim (cases_Bool (place h.region == k)) [
  | inl t ↦ rw t (elim (cases_Bool (nat_lt h.gap.upto h.gap.end)) [
    | inl u ↦ rw u (omega arith)
    | inr u ↦ rw u (omega arith)
  ])
  | inr t ↦ rw t (omega arith)
]

pub total_le : {X : Type 0} (f g : X → ℕ) (xs : List X) → ((x : X) → f x ≤ g x) → total f xs ≤ total g xs
total_le f g [] h = omega arith
total_le f g (x ∷ xs) h = omega (arith, h x, total_le f g xs h)

pub empty_weighs : (x : Part) (f : ℕ → ℕ → ℕ → ℕ) (t : Tracker) → t.tickets ≡ [] → t.gaps ≡ [] → by_tracker x f t ≡ 0
empty_weighs tickets f t a b = ap (total (by_ticket f)) a
empty_weighs gaps f t a b = ap (total (by_gap f)) b

pub none_of : TicketWeights → GapWeights → (t : Tracker) → tickets_weigh (λ _ _ _. 1) t ≡ 0 → gaps_weigh (λ _ _ _. 1) t ≡ 0 → (t.tickets ≡ []) × (t.gaps ≡ [])
none_of tw gw t a b = (tw.none t a, gw.none t b)

one_self : (a b c : ℕ) → one_at a b c a b c ≡ 1
one_self a b c = rw (eq-eqb a a refl, eq-eqb b b refl, eq-eqb c c refl) refl

has_of : TicketWeights → GapWeights → (t : Tracker) → tracker.IsGood t → (h : Hold) → ((x : Part) (f : ℕ → ℕ → ℕ → ℕ) → by_hold x f h ≤ by_tracker x f t) → HasHold t h
has_of tw gw t good h le = record {
  ticket = let k = tw.found h.ticket h.sub.start h.sub.end t good (omega (arith, le tickets (one_at h.ticket h.sub.start h.sub.end), one_self h.ticket h.sub.start h.sub.end)) in (k.0, k.1, k.3, k.4);
  gap = λ opened.
      let l : nat_lt h.gap.upto h.gap.end ≡ true = grind (arith, nat_tests) in
      let v : by_hold gaps (one_at h.gap.id h.gap.upto h.gap.end) h ≡ 1 = rw l (one_self h.gap.id h.gap.upto h.gap.end) in
      gw.found h.gap.id h.gap.upto h.gap.end t good (omega (arith, le gaps (one_at h.gap.id h.gap.upto h.gap.end), v));
}

pub owns_of : TicketWeights → GapWeights → (k : ℕ) (t : Tracker) → tracker.IsGood t → (o : Option Hold) → at_of o ≡ k → ((x : Part) (f : ℕ → ℕ → ℕ → ℕ) → weight k (by_hold x f) o ≤ by_tracker x f t) → HasHolds t o
owns_of tw gw k t good None e le = tt
owns_of tw gw k t good (Some h) e le = has_of tw gw t good h (λ x f. omega (arith, le x f, weight_yes k (by_hold x f) (Some h) e))
