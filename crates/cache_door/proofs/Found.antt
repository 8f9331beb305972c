-- A hold's ticket and open gap are found in its region's cell.
use Rattle.std.proofs.Common.{arith, ◌≡◌, ◌<◌, ◌≤◌, ℕ, Bool, true, List, sym, subst, ◌∙◌, ap, inl, inr, refl, length, Some, None}
use Rattle.std.specs.Prelude.{◌==◌, nat_lt, cond, slice_get}
use Rattle.std.proofs.lemmas.Bool.{cases_Bool, cases_lt, eq-eqb, eqb-true}
use Rattle.std.proofs.lemmas.Bool.Decides.{nat_tests}
use Rattle.sparse_tracker.specs.declared.gaps.OpenGap.{OpenGap}
use Rattle.sparse_tracker.specs.declared.tickets.Ticket.{Ticket}
use Rattle.sparse_tracker.specs.ByteStates.{gap_of, ticket_of}
use Rattle.sparse_tracker.specs.Weights.{total, by_ticket, by_gap}
use Rattle.sparse_tracker.proofs.Heavy.{heavy, first_is, same_gap}
use Rattle.cache_door.specs.declared.hold.Hold.{Hold}
use Rattle.cache_door.specs.Machine.{State, cell_at, hold_at}
use Rattle.cache_door.specs.Good.{Good, weigh_hold, hold_ticket, hold_gap}
use Rattle.cache_door.proofs.Weighs.{total-at, weigh_here}
use Rattle.cache_door.proofs.Places.{past}

-- 1 at these three numbers, else 0
abbrev pub mark : ℕ → ℕ → ℕ → ℕ → ℕ → ℕ → ℕ
mark a b c x y z = cond (x == a) (cond (y == b) (cond (z == c) 1 0) 0) 0

pub marked : (a b c x y z : ℕ) → 0 < mark a b c x y z → (x ≡ a) × (y ≡ b) × (z ≡ c)
marked a b c x y z h = elim (cases_Bool (x == a)) [
  | inl i ↦ elim (cases_Bool (y == b)) [
    | inl j ↦ elim (cases_Bool (z == c)) [
      | inl k ↦ (eqb-true x a i, eqb-true y b j, eqb-true z c k)
      | inr k ↦ absurd (let g = rw (i, j, k) at h in omega (arith, g))
    ]
    | inr j ↦ absurd (let g = rw (i, j) at h in omega (arith, g))
  ]
  | inr i ↦ absurd (let g = rw i at h in omega (arith, g))
]

pub mark_self : (a b c : ℕ) → mark a b c a b c ≡ 1
mark_self a b c = rw (eq-eqb a a refl, eq-eqb b b refl, eq-eqb c c refl) refl

hold_weighs : (f : Hold → ℕ) (s : State) (a : ℕ) (h : Hold) → hold_at s a ≡ Some h → f h ≤ total (weigh_hold h.region f) s.holds
hold_weighs f s a h e = elim (cases_lt a (length s.holds)) [
  | inl l ↦
      let t = total-at (weigh_hold h.region f) s.holds a None l in
      let w : weigh_hold h.region f (hold_at s a) ≡ f h = rw e (weigh_here h.region f (Some h) refl) in
      omega (arith, t, w)
  | inr g ↦ absurd (none_some (sym (past s.holds a None g) ∙ e))
]
  where
    none_some : {h : Hold} → None ≡ Some h → ⊥
    none_some e = cc

-- the ticket, with the hold's sub-range
pub found_ticket : {tells : Bool} {files : ℕ → ℕ → List ℕ} (s : State) (a : ℕ) (h : Hold) → Good tells files s → hold_at s a ≡ Some h
    → (j : ℕ) × ((k : Ticket) × (ticket_of h.ticket (cell_at s h.region).region.tracker ≡ Some k) × (k.number ≡ h.ticket) × (k.start ≡ h.sub.start) × (k.end ≡ h.sub.end) × (slice_get (cell_at s h.region).region.tracker.tickets j ≡ Some k))
found_ticket s a h good e =
    let fits = good.holds a h e in
    let f = mark h.ticket h.sub.start h.sub.end in
    let t = (cell_at s h.region).region.tracker in
    let w = hold_weighs (hold_ticket f) s a h e in
    let o = good.tickets h.region f fits.region in
    let m = mark_self h.ticket h.sub.start h.sub.end in
    let some : 0 < total (by_ticket f) t.tickets = omega (arith, w, o, m) in
    let x = heavy (by_ticket f) t.tickets some in
    let k = marked h.ticket h.sub.start h.sub.end x.1.0.number x.1.0.start x.1.0.end x.1.2 in
    let y = first_is (λ (q : Ticket). q.number == h.ticket) t.tickets x.0 x.1.0 x.1.1 (eq-eqb x.1.0.number h.ticket k.0) in
    let n = eqb-true y.1.0.number h.ticket y.1.3 in
    let i = (good.cells h.region fits.region).tracker.numbers y.0 x.0 y.1.0 x.1.0 y.1.2 x.1.1 (n ∙ sym k.0) in
    let P : ℕ → Type 0 = λ q. slice_get t.tickets q ≡ Some y.1.0 in
    let same : y.1.0 ≡ x.1.0 = (let g = subst P i y.1.2 in let h = x.1.1 in cc) in
    (y.0, (y.1.0, y.1.1, n, ap (λ (q : Ticket). q.start) same ∙ k.1, ap (λ (q : Ticket). q.end) same ∙ k.2, y.1.2))

-- the open gap
pub found_gap : {tells : Bool} {files : ℕ → ℕ → List ℕ} (s : State) (a : ℕ) (h : Hold) → Good tells files s → hold_at s a ≡ Some h → h.gap.upto < h.gap.end
    → gap_of h.gap.id (cell_at s h.region).region.tracker ≡ Some h.gap
found_gap s a h good e opened =
    let fits = good.holds a h e in
    let f = mark h.gap.id h.gap.upto h.gap.end in
    let t = (cell_at s h.region).region.tracker in
    let w = hold_weighs (hold_gap f) s a h e in
    let l : nat_lt h.gap.upto h.gap.end ≡ true = grind (arith, nat_tests) in
    let v : hold_gap f h ≡ 1 = rw l (mark_self h.gap.id h.gap.upto h.gap.end) in
    let o = good.gaps h.region f fits.region in
    let some : 0 < total (by_gap f) t.gaps = omega (arith, w, o, v) in
    let x = heavy (by_gap f) t.gaps some in
    let k = marked h.gap.id h.gap.upto h.gap.end x.1.0.id x.1.0.upto x.1.0.end x.1.2 in
    let y = first_is (λ (q : OpenGap). q.id == h.gap.id) t.gaps x.0 x.1.0 x.1.1 (eq-eqb x.1.0.id h.gap.id k.0) in
    let n = eqb-true y.1.0.id h.gap.id y.1.3 in
    let i = (good.cells h.region fits.region).tracker.ids y.0 x.0 y.1.0 x.1.0 y.1.2 x.1.1 (n ∙ sym k.0) in
    let P : ℕ → Type 0 = λ q. slice_get t.gaps q ≡ Some y.1.0 in
    let same : y.1.0 ≡ x.1.0 = (let g = subst P i y.1.2 in let h = x.1.1 in cc) in
    y.1.1 ∙ ap (λ (q : OpenGap). Some q) (same ∙ same_gap x.1.0 h.gap k.0 k.1 k.2)
