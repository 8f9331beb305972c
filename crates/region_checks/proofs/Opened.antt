-- What a claim opens is open, and what was open stays open.
use Rattle.std.proofs.Common.{inl, inr, sym, subst, ap, arith, ◌≡◌, ℕ, Option, List, [], ◌∷◌, ◌++◌, Some, None, true, Bool, refl}
use Rattle.std.specs.Prelude.{◌==◌, find, map, IsSome, IfSome, IfOk, OnOk, OnErr, Result, Ok, Err, option_map}
use Rattle.std.proofs.lemmas.Bool.{cases_Bool}
use Rattle.std.proofs.lemmas.Bool.Decides.{nat_tests}
use Rattle.region_ranges.specs.declared.ranges.ByteRange.{ByteRange}
use Rattle.sparse_tracker.specs.declared.tickets.Ticket.{Ticket}
use Rattle.sparse_tracker.specs.declared.status.Gap.{Gap}
use Rattle.sparse_tracker.specs.declared.status.Claim.{Claim}
use Rattle.sparse_tracker.specs.ByteStates.{TrackerView, least_unused, ids, numbers, new_claim, ByteState, Tracker, gap_of, ticket_of, open_gap_at, claimed_run, with_ticket, wait_for_range, fail, fail_ticket}

pub kept_in : {X : Type 0} (p : X → Bool) (xs ys : List X) → IsSome (find p xs) → IsSome (find p (xs ++ ys))
kept_in p [] ys s = absurd (cc)
kept_in p (x ∷ xs) ys s = elim (cases_Bool (p x)) [
  | inl e ↦ rw e refl
  | inr e ↦ let r = rw e at s in rw e (kept_in p xs ys r)
]

pub last_in : {X : Type 0} (p : X → Bool) (xs : List X) (y : X) → p y ≡ true → IsSome (find p (xs ++ y ∷ []))
last_in p [] y e = rw e refl
last_in p (x ∷ xs) y e = elim (cases_Bool (p x)) [
  | inl h ↦ rw h refl
  | inr h ↦ rw h (last_in p xs y e)
]

same_number : (n : ℕ) → (n == n) ≡ true
same_number n = grind (arith, nat_tests)

gap_kept : (o : Option ByteRange) (g : ℕ) (t : Tracker) → IsSome (gap_of g t) → IsSome (gap_of g (open_gap_at o t))
gap_kept None g t s = s
gap_kept (Some run) g t s = kept_in (λ x. x.id == g) t.gaps _ s

ticket_kept : (o : Option ByteRange) (sub : ByteRange) (n : ℕ) (t : Tracker) → IsSome (ticket_of n t) → IsSome (ticket_of n (with_ticket sub (open_gap_at o t)))
ticket_kept None sub n t s = kept_in (λ x. x.number == n) t.tickets _ s
ticket_kept (Some run) sub n t s = kept_in (λ x. x.number == n) t.tickets _ s

gap_made : (o : Option ByteRange) (sub : ByteRange) (t : Tracker) → IfSome (option_map (λ (run : ByteRange). record { id = least_unused (ids t.gaps); range = run }) o) (λ (g : Gap). IsSome (gap_of g.id (with_ticket sub (open_gap_at o t))))
gap_made None sub t = tt {0}
gap_made (Some run) sub t = last_in (λ x. x.id == least_unused (ids t.gaps)) t.gaps _ (same_number (least_unused (ids t.gaps)))

ticket_made : (o : Option ByteRange) (sub : ByteRange) (t : Tracker) → IsSome (ticket_of (least_unused (numbers t.tickets)) (with_ticket sub (open_gap_at o t)))
ticket_made None sub t = last_in (λ x. x.number == least_unused (numbers t.tickets)) t.tickets _ (same_number (least_unused (numbers t.tickets)))
ticket_made (Some run) sub t = last_in (λ x. x.number == least_unused (numbers t.tickets)) t.tickets _ (same_number (least_unused (numbers t.tickets)))

pub gap_stays : (range sub : ByteRange) (g : ℕ) (t : Tracker) → IsSome (gap_of g t) → IsSome (gap_of g (wait_for_range range sub t))
gap_stays range sub g t s = gap_kept (claimed_run range sub t) g t s

pub ticket_stays : (range sub : ByteRange) (n : ℕ) (t : Tracker) → IsSome (ticket_of n t) → IsSome (ticket_of n (wait_for_range range sub t))
ticket_stays range sub n t s = ticket_kept (claimed_run range sub t) sub n t s

pub gap_opens : (range sub : ByteRange) (t : Tracker) → IfSome (new_claim range sub t).gap (λ (g : Gap). IsSome (gap_of g.id (wait_for_range range sub t)))
gap_opens range sub t = gap_made (claimed_run range sub t) sub t

pub ticket_opens : (range sub : ByteRange) (t : Tracker) → IsSome (ticket_of (new_claim range sub t).ticket (wait_for_range range sub t))
ticket_opens range sub t = ticket_made (claimed_run range sub t) sub t

marked : (n g : ℕ) (ls : List ByteState) (ks : List Ticket) → IsSome (find (λ k. k.number == n) ks) → IsSome (find (λ k. k.number == n) (map (fail_ticket g ls) ks))
marked n g ls [] s = absurd (cc)
marked n g ls (k ∷ ks) s = elim (cases_Bool (k.number == n)) [
  | inl e ↦ rw e refl
  | inr e ↦ let r = rw e at s in rw e (marked n g ls ks r)
]

pub ticket_outlasts : (n g : ℕ) (t : Tracker) → IsSome (ticket_of n t) → IsSome (ticket_of n (fail g t))
ticket_outlasts n g t s = marked n g t.byte_states t.tickets s

-- what a claim that was answered opens, and what it leaves open, or what a refused one does
module _ {E : Type 0} (range sub : ByteRange) (old now : Tracker) where
  pub claim_gap : (r : Result Claim E) → IfOk r (λ c. c ≡ new_claim range sub old) → OnOk r (now ≡ wait_for_range range sub old) → IfOk r (λ c. IfSome c.gap (λ (g : Gap). IsSome (gap_of g.id now)))
  claim_gap (Ok c) e h =
      subst (λ (t : Tracker). IfSome c.gap (λ (g : Gap). IsSome (gap_of g.id t))) (sym h)
      (subst (λ (k : Claim). IfSome k.gap (λ (g : Gap). IsSome (gap_of g.id (wait_for_range range sub old)))) (sym e) (gap_opens range sub old))
  claim_gap (Err x) e h = tt {0}

  pub claim_ticket : (r : Result Claim E) → IfOk r (λ c. c ≡ new_claim range sub old) → OnOk r (now ≡ wait_for_range range sub old) → IfOk r (λ c. IsSome (ticket_of c.ticket now))
  claim_ticket (Ok c) e h =
      subst (λ (t : Tracker). IsSome (ticket_of c.ticket t)) (sym h)
      (subst (λ (k : Claim). IsSome (ticket_of k.ticket (wait_for_range range sub old))) (sym e) (ticket_opens range sub old))
  claim_ticket (Err x) e h = tt {0}

  pub claim_gaps : (r : Result Claim E) → OnOk r (now ≡ wait_for_range range sub old) → OnErr r (now ≡ old) → (g : ℕ) → IsSome (gap_of g old) → IsSome (gap_of g now)
  claim_gaps (Ok c) h k g s = subst (λ (t : Tracker). IsSome (gap_of g t)) (sym h) (gap_stays range sub g old s)
  claim_gaps (Err x) h k g s = subst (λ (t : Tracker). IsSome (gap_of g t)) (sym k) s

  pub claim_tickets : (r : Result Claim E) → OnOk r (now ≡ wait_for_range range sub old) → OnErr r (now ≡ old) → (n : ℕ) → IsSome (ticket_of n old) → IsSome (ticket_of n now)
  claim_tickets (Ok c) h k n s = subst (λ (t : Tracker). IsSome (ticket_of n t)) (sym h) (ticket_stays range sub n old s)
  claim_tickets (Err x) h k n s = subst (λ (t : Tracker). IsSome (ticket_of n t)) (sym k) s

-- of a whole answer, what it says of the bytes
pub ok_tracker : {E : Type 0} (r : Result Claim E) (old : TrackerView) (now : TrackerView) (t : Tracker) (n : ℕ) → OnOk r (now ≡ record old { tracker = t; spare = n }) → OnOk r (now.tracker ≡ t)
ok_tracker (Ok c) old now t n h = ap (λ (v : TrackerView). v.tracker) h
ok_tracker (Err x) old now t n h = tt {0}

pub err_tracker : {E : Type 0} (r : Result Claim E) (old now : TrackerView) → OnErr r (now ≡ old) → OnErr r (now.tracker ≡ old.tracker)
err_tracker (Ok c) old now h = tt {0}
err_tracker (Err x) old now h = ap (λ (v : TrackerView). v.tracker) h
