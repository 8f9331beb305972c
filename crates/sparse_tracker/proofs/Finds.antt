-- The place of the first element that passes a test, and the lists without it and with it changed.
use Rattle.std.proofs.Common.{arith, ◌≡◌, ◌<◌, ◌+◌, ℕ, suc, Bool, true, false, List, [], ◌∷◌, sym, ap, inl, inr, refl, length, get_or, set, Some}
use Rattle.std.specs.Prelude.{◌==◌, not, find, remove}
use Rattle.std.specs.List.{prefix_len}
use Rattle.std.proofs.lemmas.Bool.{cases_Bool}
use Rattle.std.proofs.lemmas.Bool.Decides.{nat_tests}
use Rattle.sparse_tracker.specs.declared.gaps.OpenGap.{OpenGap}
use Rattle.sparse_tracker.specs.declared.tickets.Ticket.{Ticket}
use Rattle.sparse_tracker.specs.ByteStates.{move_gap, without_gap, without_ticket}

pub found : {X : Type 0} (p : X → Bool) (xs : List X) (d : X) → prefix_len (λ x. not (p x)) xs < length xs → find p xs ≡ Some (get_or xs (prefix_len (λ x. not (p x)) xs) d)
found p [] d h = absurd (omega arith)
found p (x ∷ xs) d h = elim (cases_Bool (p x)) [
  | inl t ↦ rw t refl
  | inr f ↦
      let e : 1 + prefix_len (λ y. not (p y)) xs ≡ suc (prefix_len (λ y. not (p y)) xs) = omega arith in
      let k = rw (f, e) at h in
      rw (f, e) (found p xs d (omega (arith, k)))
]

pub without_gap_is : (g : ℕ) (gs : List OpenGap) → prefix_len (λ o. not (o.id == g)) gs < length gs → without_gap g gs ≡ remove gs (prefix_len (λ o. not (o.id == g)) gs)
without_gap_is g [] h = absurd (omega arith)
without_gap_is g (o ∷ os) h = elim (cases_Bool (o.id == g)) [
  | inl t ↦ rw t refl
  | inr f ↦
      let e : 1 + prefix_len (λ x. not (x.id == g)) os ≡ suc (prefix_len (λ x. not (x.id == g)) os) = omega arith in
      let k = rw (f, e) at h in
      rw (f, e) (ap (λ (xs : List OpenGap). o ∷ xs) (without_gap_is g os (omega (arith, k))))
]

pub without_ticket_is : (n : ℕ) (ks : List Ticket) → prefix_len (λ k. not (k.number == n)) ks < length ks → without_ticket n ks ≡ remove ks (prefix_len (λ k. not (k.number == n)) ks)
without_ticket_is n [] h = absurd (omega arith)
without_ticket_is n (t ∷ ts) h = elim (cases_Bool (t.number == n)) [
  | inl e ↦ rw e refl
  | inr f ↦
      let e : 1 + prefix_len (λ x. not (x.number == n)) ts ≡ suc (prefix_len (λ x. not (x.number == n)) ts) = omega arith in
      let k = rw (f, e) at h in
      rw (f, e) (ap (λ (xs : List Ticket). t ∷ xs) (without_ticket_is n ts (omega (arith, k))))
]

module _ (g to : ℕ) where
  pub closed_is : (gs : List OpenGap) (d : OpenGap) → prefix_len (λ o. not (o.id == g)) gs < length gs → (to == (get_or gs (prefix_len (λ o. not (o.id == g)) gs) d).end) ≡ true → move_gap g to gs ≡ remove gs (prefix_len (λ o. not (o.id == g)) gs)
  closed_is [] d h w = absurd (omega arith)
  closed_is (o ∷ os) d h w = elim (cases_Bool (o.id == g)) [
    | inl t ↦ let v = rw t at w in rw (t, v) refl
    | inr f ↦
        let e : 1 + prefix_len (λ x. not (x.id == g)) os ≡ suc (prefix_len (λ x. not (x.id == g)) os) = omega arith in
        let k = rw (f, e) at h in
        let v = rw (f, e) at w in
        rw (f, e) (ap (λ (xs : List OpenGap). o ∷ xs) (closed_is os d (omega (arith, k)) v))
  ]

  pub moved_is : (gs : List OpenGap) (d : OpenGap) → prefix_len (λ o. not (o.id == g)) gs < length gs → (to == (get_or gs (prefix_len (λ o. not (o.id == g)) gs) d).end) ≡ false
      → move_gap g to gs ≡ set gs (prefix_len (λ o. not (o.id == g)) gs) (record (get_or gs (prefix_len (λ o. not (o.id == g)) gs) d) { upto = to })
  moved_is [] d h w = absurd (omega arith)
  moved_is (o ∷ os) d h w = elim (cases_Bool (o.id == g)) [
    | inl t ↦ let v = rw t at w in rw (t, v) refl
    | inr f ↦
        let e : 1 + prefix_len (λ x. not (x.id == g)) os ≡ suc (prefix_len (λ x. not (x.id == g)) os) = omega arith in
        let k = rw (f, e) at h in
        let v = rw (f, e) at w in
        rw (f, e) (ap (λ (xs : List OpenGap). o ∷ xs) (moved_is os d (omega (arith, k)) v))
  ]

-- ---- the same, at a place that is told by an equation

pub found_at : {X : Type 0} (p : X → Bool) (xs : List X) (n : ℕ) (d : X) → n < length xs → n ≡ prefix_len (λ x. not (p x)) xs → find p xs ≡ Some (get_or xs n d)
found_at p xs n d h e = let m : prefix_len (λ x. not (p x)) xs < length xs = omega arith in rw e (found p xs d m)

pub without_gap_at : (g n : ℕ) (gs : List OpenGap) → n < length gs → n ≡ prefix_len (λ o. not (o.id == g)) gs → remove gs n ≡ without_gap g gs
without_gap_at g n gs h e = let m : prefix_len (λ o. not (o.id == g)) gs < length gs = omega arith in rw e (sym (without_gap_is g gs m))

pub without_ticket_at : (t n : ℕ) (ks : List Ticket) → n < length ks → n ≡ prefix_len (λ k. not (k.number == t)) ks → remove ks n ≡ without_ticket t ks
without_ticket_at t n ks h e = let m : prefix_len (λ k. not (k.number == t)) ks < length ks = omega arith in rw e (sym (without_ticket_is t ks m))

pub closed_at : (g to n : ℕ) (gs : List OpenGap) (d : OpenGap) → n < length gs → n ≡ prefix_len (λ o. not (o.id == g)) gs → to ≡ (get_or gs n d).end → remove gs n ≡ move_gap g to gs
closed_at g to n gs d h e w =
    let m : prefix_len (λ o. not (o.id == g)) gs < length gs = omega arith in
    let t : (to == (get_or gs n d).end) ≡ true = grind (arith, nat_tests) in
    let v = rw e at t in
    rw e (sym (closed_is g to gs d m v))

pub moved_at : (g to n : ℕ) (gs : List OpenGap) (d : OpenGap) → n < length gs → n ≡ prefix_len (λ o. not (o.id == g)) gs → (to ≡ (get_or gs n d).end → ⊥) → set gs n (record (get_or gs n d) { upto = to }) ≡ move_gap g to gs
moved_at g to n gs d h e w =
    let m : prefix_len (λ o. not (o.id == g)) gs < length gs = omega arith in
    let t : (to == (get_or gs n d).end) ≡ false = grind (arith, nat_tests) in
    let v = rw e at t in
    rw e (sym (moved_is g to gs d m v))
