-- A ticket or a gap that weighs something is there.
use Rattle.std.proofs.Common.{arith, ◌≡◌, ◌<◌, ℕ, zero, suc, Bool, true, List, [], ◌∷◌, sym, subst, ◌∙◌, ap, inl, inr, refl, Some}
use Rattle.std.specs.Prelude.{◌==◌, slice_get, find}
use Rattle.std.proofs.lemmas.Bool.{cases_Bool, cases_lt, false≢true, eq-eqb, eqb-true}
use Rattle.sparse_tracker.specs.declared.gaps.OpenGap.{OpenGap}
use Rattle.sparse_tracker.specs.declared.tickets.Ticket.{Ticket}
use Rattle.sparse_tracker.specs.ByteStates.{Tracker, gap_of, ticket_of}
use Rattle.sparse_tracker.specs.Weights.{total, by_ticket, by_gap, one_at, one_each, tickets_weigh, gaps_weigh}
use Rattle.sparse_tracker.specs.Kept.{IsGood}

at_one : (a b c x y z : ℕ) → 0 < one_at a b c x y z → (x ≡ a) × (y ≡ b) × (z ≡ c)
at_one a b c x y z h = elim (cases_Bool (x == a)) [
  | inl i ↦ elim (cases_Bool (y == b)) [
    | inl j ↦ elim (cases_Bool (z == c)) [
      | inl k ↦ (eqb-true x a i, eqb-true y b j, eqb-true z c k)
      | inr k ↦ absurd (let g = rw (i, j, k) at h in omega (arith, g))
    ]
    | inr j ↦ absurd (let g = rw (i, j) at h in omega (arith, g))
  ]
  | inr i ↦ absurd (let g = rw i at h in omega (arith, g))
]

-- an entry that weighs something
pub heavy : {X : Type 0} (f : X → ℕ) (xs : List X) → 0 < total f xs → (j : ℕ) × ((x : X) × (slice_get xs j ≡ Some x) × (0 < f x))
heavy f [] h = absurd (omega (arith, h))
heavy f (x ∷ xs) h = elim (cases_lt 0 (f x)) [
  | inl l ↦ (0, (x, refl, l))
  | inr g ↦ let k = heavy f xs (omega (arith, h, g)) in (suc k.0, k.1)
]

-- the first entry that passes a test, where one does, passes it and stands at some place
pub first_is : {X : Type 0} (p : X → Bool) (xs : List X) (j : ℕ) (x : X) → slice_get xs j ≡ Some x → p x ≡ true → (i : ℕ) × ((y : X) × (find p xs ≡ Some y) × (slice_get xs i ≡ Some y) × (p y ≡ true))
first_is p [] j x e t = absurd (cc)
first_is p (y ∷ ys) zero x e t = elim (cases_Bool (p y)) [
  | inl u ↦ (0, (y, rw u refl, refl, u))
  | inr f ↦ absurd (false≢true (sym f ∙ (let i : y ≡ x = (cc) in ap p i ∙ t)))
]
first_is p (y ∷ ys) (suc j) x e t = elim (cases_Bool (p y)) [
  | inl u ↦ (0, (y, rw u refl, refl, u))
  | inr f ↦ let k = first_is p ys j x e t in (suc k.0, (k.1.0, rw f k.1.1, k.1.2, k.1.3))
]

-- gaps are told by their numbers
pub same_gap : (o p : OpenGap) → o.id ≡ p.id → o.upto ≡ p.upto → o.end ≡ p.end → o ≡ p
same_gap o p a b c =
    ap (λ (i : ℕ). let g : OpenGap = record { id = i; upto = o.upto; end = o.end } in g) a
    ∙ ap (λ (i : ℕ). let g : OpenGap = record { id = p.id; upto = i; end = o.end } in g) b
    ∙ ap (λ (i : ℕ). let g : OpenGap = record { id = p.id; upto = p.upto; end = i } in g) c

pub ticket_found : (n start end : ℕ) (t : Tracker) → IsGood t → 0 < tickets_weigh (one_at n start end) t
    → (k : Ticket) × (ticket_of n t ≡ Some k) × (k.number ≡ n) × (k.start ≡ start) × (k.end ≡ end)
ticket_found n start end t good some =
    let x = heavy (by_ticket (one_at n start end)) t.tickets some in
    let k = at_one n start end x.1.0.number x.1.0.start x.1.0.end x.1.2 in
    let y = first_is (λ (q : Ticket). q.number == n) t.tickets x.0 x.1.0 x.1.1 (eq-eqb x.1.0.number n k.0) in
    let m = eqb-true y.1.0.number n y.1.3 in
    let i = good.numbers y.0 x.0 y.1.0 x.1.0 y.1.2 x.1.1 (m ∙ sym k.0) in
    let P : ℕ → Type 0 = λ q. slice_get t.tickets q ≡ Some y.1.0 in
    let same : y.1.0 ≡ x.1.0 = (let g = subst P i y.1.2 in let h = x.1.1 in cc) in
    (y.1.0, y.1.1, m, ap (λ (q : Ticket). q.start) same ∙ k.1, ap (λ (q : Ticket). q.end) same ∙ k.2)

pub gap_found : (id upto end : ℕ) (t : Tracker) → IsGood t → 0 < gaps_weigh (one_at id upto end) t → gap_of id t ≡ Some (record { id = id; upto = upto; end = end })
gap_found id upto end t good some =
    let x = heavy (by_gap (one_at id upto end)) t.gaps some in
    let k = at_one id upto end x.1.0.id x.1.0.upto x.1.0.end x.1.2 in
    let y = first_is (λ (q : OpenGap). q.id == id) t.gaps x.0 x.1.0 x.1.1 (eq-eqb x.1.0.id id k.0) in
    let m = eqb-true y.1.0.id id y.1.3 in
    let i = good.ids y.0 x.0 y.1.0 x.1.0 y.1.2 x.1.1 (m ∙ sym k.0) in
    let P : ℕ → Type 0 = λ q. slice_get t.gaps q ≡ Some y.1.0 in
    let same : y.1.0 ≡ x.1.0 = (let g = subst P i y.1.2 in let h = x.1.1 in cc) in
    let wanted : OpenGap = record { id = id; upto = upto; end = end } in
    y.1.1 ∙ ap (λ (q : OpenGap). Some q) (same ∙ same_gap x.1.0 wanted k.0 k.1 k.2)

pub no_tickets : (ks : List Ticket) → total (by_ticket one_each) ks ≡ 0 → ks ≡ []
no_tickets [] e = refl
no_tickets (k ∷ ks) e = absurd (omega (arith, e))

pub no_gaps : (gs : List OpenGap) → total (by_gap one_each) gs ≡ 0 → gs ≡ []
no_gaps [] e = refl
no_gaps (g ∷ gs) e = absurd (omega (arith, e))
