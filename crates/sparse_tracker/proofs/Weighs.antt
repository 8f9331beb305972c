-- What the calls make of the weights of tickets and gaps.
use Rattle.std.proofs.Common.{arith, ◌≡◌, ◌+◌, ℕ, true, false, List, [], ◌∷◌, ◌++◌, sym, ◌∙◌, ap, inl, inr, refl, Some}
use Rattle.std.specs.Prelude.{◌==◌, map, find, if◌then◌else◌}
use Rattle.std.proofs.lemmas.Bool.{cases_Bool}
use Rattle.sparse_tracker.specs.declared.gaps.OpenGap.{OpenGap}
use Rattle.sparse_tracker.specs.declared.tickets.Ticket.{Ticket}
use Rattle.sparse_tracker.specs.ByteStates.{ByteState, fail_ticket, move_gap, without_gap, without_ticket}
use Rattle.sparse_tracker.specs.Weights.{total, by_ticket, by_gap, TicketWeights, GapWeights}
use Rattle.sparse_tracker.proofs.Heavy.{ticket_found, gap_found, no_tickets, no_gaps}

pub total-push : {X : Type 0} (f : X → ℕ) (xs : List X) (x : X) → total f (xs ++ x ∷ []) ≡ total f xs + f x
total-push f [] x = omega arith
total-push f (y ∷ ys) x = let e = total-push f ys x in omega (arith, e)

pub left_weighs : (f : ℕ → ℕ → ℕ → ℕ) (n : ℕ) (ks : List Ticket) (k : Ticket) → find (λ (t : Ticket). t.number == n) ks ≡ Some k → total (by_ticket f) ks ≡ by_ticket f k + total (by_ticket f) (without_ticket n ks)
left_weighs f n [] k h = absurd (cc)
left_weighs f n (t ∷ ts) k h = elim (cases_Bool (t.number == n)) [
  | inl e ↦ let s = rw e at h in let same : t ≡ k = cc in rw e (ap (λ (x : Ticket). by_ticket f x + total (by_ticket f) ts) same)
  | inr e ↦ let s = rw e at h in let r = left_weighs f n ts k s in rw e (omega (arith, r))
]

pub failed_weighs : (f : ℕ → ℕ → ℕ → ℕ) (g : ℕ) (ls : List ByteState) (ks : List Ticket) → total (by_ticket f) (map (fail_ticket g ls) ks) ≡ total (by_ticket f) ks
failed_weighs f g ls [] = refl
failed_weighs f g ls (k ∷ ks) = ap (λ (n : ℕ). by_ticket f k + n) (failed_weighs f g ls ks)

pub closed_weighs : (f : ℕ → ℕ → ℕ → ℕ) (g : ℕ) (gs : List OpenGap) (o : OpenGap) → find (λ (x : OpenGap). x.id == g) gs ≡ Some o → total (by_gap f) gs ≡ by_gap f o + total (by_gap f) (without_gap g gs)
closed_weighs f g [] o h = absurd (cc)
closed_weighs f g (x ∷ xs) o h = elim (cases_Bool (x.id == g)) [
  | inl e ↦ let s = rw e at h in let same : x ≡ o = cc in rw e (ap (λ (y : OpenGap). by_gap f y + total (by_gap f) xs) same)
  | inr e ↦ let s = rw e at h in let r = closed_weighs f g xs o s in rw e (omega (arith, r))
]

pub moved_weighs : (f : ℕ → ℕ → ℕ → ℕ) (g to : ℕ) (gs : List OpenGap) (o : OpenGap) → find (λ (x : OpenGap). x.id == g) gs ≡ Some o → total (by_gap f) (move_gap g to gs) + by_gap f o ≡ total (by_gap f) gs + (if to == o.end then 0 else f o.id to o.end)
moved_weighs f g to [] o h = absurd (cc)
moved_weighs f g to (x ∷ xs) o h = elim (cases_Bool (x.id == g)) [
  | inl e ↦
      let s = rw e at h in let same : x ≡ o = cc in
      let is : by_gap f x ≡ by_gap f o = ap (by_gap f) same in
      let ends : (to == x.end) ≡ (to == o.end) = ap (λ (y : OpenGap). to == y.end) same in
      elim (cases_Bool (to == x.end)) [
        | inl c ↦ let d : (to == o.end) ≡ true = sym ends ∙ c in rw (e, c, d) (omega (arith, is))
        | inr c ↦
            let d : (to == o.end) ≡ false = sym ends ∙ c in
            let now : f x.id to x.end ≡ f o.id to o.end = ap (λ (y : OpenGap). f y.id to y.end) same in
            rw (e, c, d) (omega (arith, is, now))
      ]
  | inr e ↦ let s = rw e at h in let r = moved_weighs f g to xs o s in rw e (omega (arith, r))
]

pub tickets_told : TicketWeights
tickets_told = record {
  added = λ f sub t. total-push (by_ticket f) t.tickets _;
  left = λ f n k t h. left_weighs f n t.tickets k h;
  failed = λ f g t. failed_weighs f g t.byte_states t.tickets;
  found = ticket_found;
  none = λ t e. no_tickets t.tickets e;
}

pub gaps_told : GapWeights
gaps_told = record {
  opened = λ f run t. total-push (by_gap f) t.gaps _;
  moved = λ f g to o t h. moved_weighs f g to t.gaps o h;
  failed = λ f g o t h. closed_weighs f g t.gaps o h;
  found = gap_found;
  none = λ t e. no_gaps t.gaps e;
}
