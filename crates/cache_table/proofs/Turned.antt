-- What a holder's turn makes of the cell, the word and the hold.
use Rattle.std.proofs.Common.{arith, ◌≡◌, ◌≢◌, ◌<◌, ◌≤◌, ◌+◌, ◌-◌, ◌%◌, ℕ, Bool, true, false, List, [], ◌∷◌, sym, subst, ◌∙◌, ap, refl, Option, Some, None, inl, inr}
use Rattle.std.specs.Prelude.{◌==◌, nat_lt, nat_le, IsTrue, IfSome, ◌↔◌, if◌then◌else◌}
use Rattle.std.specs.List.{list_any, list_all, find}
use Rattle.std.proofs.lemmas.Bool.{cases_Bool, cases_lt, eqb-true}
use Rattle.std.proofs.lemmas.Bool.Decides.{nat_tests}
use Rattle.byte_text.specs.Counts.{Rose}
use Rattle.sparse_tracker.specs.declared.gaps.OpenGap.{OpenGap}
use Rattle.sparse_tracker.specs.declared.tickets.Ticket.{Ticket}
use Rattle.sparse_tracker.specs.declared.status.Status.TheVariants as status
use Rattle.sparse_tracker.specs.ByteStates.{ByteState, Tracker, gap_of, ticket_of, is_absent, is_present, status_of, progress, fail, leave, least_unused, numbers, ids, with_ticket, open_gap, open_gap_at}
use Rattle.sparse_tracker.specs.Weights.{TicketWeights, GapWeights}
use Rattle.sparse_tracker.proofs.Looks.{lacks_some}
use Rattle.region_cell.specs.Cells as cells
use Rattle.region_cell.specs.Cells.{CellView, FrameStays, IsGood, Region, claim_run}
use Rattle.cache_door.specs.declared.hold.Hold.{Hold}
use Rattle.region_ranges.specs.declared.ranges.ByteRange.{ByteRange}
use Rattle.cache_door.specs.declared.answers.Want.{Want}
use Rattle.cache_door.specs.Machine.{no_gap, gap_on, hold_on}
use Rattle.cache_door.specs.Good.{hold_ticket, hold_gap}
use Rattle.cache_table.specs.Abouts.{About}
use Rattle.cache_table.specs.Rule.{place, tickets, gaps, by_hold, by_tracker, at_of, value, weight, Suits, tag_of, holds_of}
use Rattle.cache_table.specs.Plays.{Changes, Moves, faulted, HasHold, HasHolds}
use Rattle.cache_table.proofs.Sums.{weight_yes, weight_no}
use Rattle.cache_table.proofs.Owns.{empty_weighs}

-- ---- the cell

pub suits_same : {told : Bool} {files : ℕ → ℕ → List ℕ} (a : About) (w v : ℕ) (c d : CellView) → Suits told files a w c → tag_of v ≡ tag_of w → d.metadata.region.tag ≡ c.metadata.region.tag → d.metadata.range ≡ c.metadata.range → FrameStays c.metadata.frame d.metadata.frame → IsGood told files d → Suits told files a v d
suits_same a w v c d s word tag range f good = record {
  tag = tag ∙ s.tag ∙ sym word;
  size = f.size ∙ s.size;
  range = range ∙ s.range;
  tells = λ t. subst IsTrue (sym f.tells) (s.tells t);
  steady = λ t. subst IsTrue (sym f.steady) (s.steady t);
  good = good;
}

-- ---- the frame's count

pub faulted_none : (x y : ℕ) → x ≡ 0 → y ≡ 0 → faulted x y ≡ 0
faulted_none x y a b = rw (a, b) refl

pub faulted_one : (x y : ℕ) → Rose x y → faulted x y ≡ 1
faulted_one x y r = elim (cases_lt x y) [
  | inl l ↦ let t : nat_lt x y ≡ true = grind (arith, nat_tests) in rw t refl
  | inr g ↦
      let h : 18446744073709551615 ≤ y = omega (arith, r, g) in
      let t : nat_le 18446744073709551615 y ≡ true = grind (arith, nat_tests) in
      elim (cases_Bool (nat_lt x y)) [ inl i ↦ rw i refl | inr i ↦ rw (i, t) refl ]
]

-- ---- the hold's changes

pub moves_stored : TicketWeights → GapWeights → (k to : ℕ) (h : Hold) (t : Tracker) → at_of (Some h) ≡ k → h.gap.upto < h.gap.end → to ≤ h.gap.end → gap_of h.gap.id t ≡ Some h.gap
    → Moves k (Some h) (Some (record h { gap = record h.gap { upto = to } })) t (progress h.gap.id to t)
moves_stored tw gw k to h t at opened within there tickets f =
    let g : Option Hold = Some h in let n : Option Hold = Some (record h { gap = record h.gap { upto = to } }) in
    omega (arith, weight_yes k (hold_ticket f) g at, weight_yes k (hold_ticket f) n at)
moves_stored tw gw k to h t at opened within there gaps f =
    let g : Option Hold = Some h in let n : Option Hold = Some (record h { gap = record h.gap { upto = to } }) in
    let l : nat_lt h.gap.upto h.gap.end ≡ true = grind (arith, nat_tests) in
    let m = gw.moved f h.gap.id to h.gap t there in
    let v : value (hold_gap f) g ≡ f h.gap.id h.gap.upto h.gap.end = rw l refl in
    let w : value (hold_gap f) n ≡ (if to == h.gap.end then 0 else f h.gap.id to h.gap.end) = elim (cases_lt to h.gap.end) [
      | inl s ↦ let p : nat_lt to h.gap.end ≡ true = grind (arith, nat_tests) in let q : (to == h.gap.end) ≡ false = grind (arith, nat_tests) in rw (p, q) refl
      | inr s ↦ let p : nat_lt to h.gap.end ≡ false = grind (arith, nat_tests) in let q : (to == h.gap.end) ≡ true = grind (arith, nat_tests) in rw (p, q) refl
    ] in
    omega (arith, weight_yes k (hold_gap f) g at, weight_yes k (hold_gap f) n at, v, w, m)

pub moves_failed : TicketWeights → GapWeights → (k : ℕ) (h : Hold) (t : Tracker) → at_of (Some h) ≡ k → h.gap.upto < h.gap.end → gap_of h.gap.id t ≡ Some h.gap
    → Moves k (Some h) (Some (record h { gap = no_gap })) t (fail h.gap.id t)
moves_failed tw gw k h t at opened there tickets f =
    let g : Option Hold = Some h in let n : Option Hold = Some (record h { gap = no_gap }) in
    omega (arith, weight_yes k (hold_ticket f) g at, weight_yes k (hold_ticket f) n at, tw.failed f h.gap.id t)
moves_failed tw gw k h t at opened there gaps f =
    let g : Option Hold = Some h in let n : Option Hold = Some (record h { gap = no_gap }) in
    let l : nat_lt h.gap.upto h.gap.end ≡ true = grind (arith, nat_tests) in
    let v : value (hold_gap f) g ≡ f h.gap.id h.gap.upto h.gap.end = rw l refl in
    omega (arith, weight_yes k (hold_gap f) g at, weight_yes k (hold_gap f) n at, v, gw.failed f h.gap.id h.gap t there)

pub moves_left : TicketWeights → (k : ℕ) (h : Hold) (j : Ticket) (t : Tracker) → at_of (Some h) ≡ k → h.gap.end ≤ h.gap.upto → ticket_of h.ticket t ≡ Some j → j.number ≡ h.ticket → j.start ≡ h.sub.start → j.end ≡ h.sub.end
    → 0 < k → Moves k (Some h) None t (leave h.ticket t)
moves_left tw k h j t at closed there number start end some tickets f =
    let g : Option Hold = Some h in
    let e : f j.number j.start j.end ≡ f h.ticket h.sub.start h.sub.end = rw (number, start, end) refl in
    omega (arith, weight_yes k (hold_ticket f) g at, weight_no k (hold_ticket f) None (λ e. omega arith), tw.left f h.ticket j t there, e)
moves_left tw k h j t at closed there number start end some gaps f =
    let g : Option Hold = Some h in
    let l : nat_lt h.gap.upto h.gap.end ≡ false = grind (arith, nat_tests) in
    let v : value (hold_gap f) g ≡ 0 = rw l refl in
    omega (arith, weight_yes k (hold_gap f) g at, weight_no k (hold_gap f) None (λ e. omega arith), v)

pub changes_left : (k w : ℕ) (h : Hold) → at_of (Some h) ≡ k → 0 < k → w % 2 ≡ 0 → 0 < holds_of w → Changes k (w + 1) (w - 2) (Some h) None
changes_left k w h at p even some-hold = record {
  counted = λ _. omega (arith, weight_no k (λ _. 1) None (λ e. omega arith), weight_yes k (λ _. 1) (Some h) at);
  elsewhere = λ j f q ne. weight_no j f None (λ e. omega arith) ∙ sym (weight_no j f (Some h) (λ e. ne (sym e ∙ at)));
  here = λ q e. absurd (omega arith);
  there = λ q ne. absurd (omega arith);
  tag = λ _ _. omega arith;
}

-- ---- the ticket's status

pub failed_lacks : (ls : List ByteState) (m : Bool) → status_of ls m ≢ status.Open → (status_of ls m ≡ status.Failed) ↔ IsTrue (list_any is_absent ls)
failed_lacks ls m n = elim (cases_Bool (list_any is_absent ls)) [
  | inl t ↦ elim (cases_Bool m) [
    | inl u ↦ rw (lacks_some ls t, t, u) ((λ e. refl), (λ e. refl))
    | inr u ↦ let k = rw (lacks_some ls t, t, u) at n in absurd (k refl)
  ]
  | inr t ↦ rw t (elim (cases_Bool (list_all is_present ls)) [
    | inl u ↦ rw u ((λ e. absurd (cc)), (λ e. absurd (cc)))
    | inr u ↦ rw u ((λ e. absurd (cc)), (λ e. absurd (cc)))
  ])
]

pub failed_marked : (ls : List ByteState) (m : Bool) → status_of ls m ≡ status.Failed → m ≡ true
failed_marked ls true e = refl
failed_marked ls false e = elim (cases_Bool (list_all is_present ls)) [
  | inl u ↦ let k = rw u at e in absurd (cc)
  | inr u ↦ elim (cases_Bool (list_any is_absent ls)) [
    | inl t ↦ let k = rw (u, t) at e in absurd (cc)
    | inr t ↦ let k = rw (u, t) at e in absurd (cc)
  ]
]

pub moves_as : (k : ℕ) {g q h r : Option Hold} {s u t v : Tracker} → q ≡ g → r ≡ h → u ≡ s → v ≡ t → Moves k g h s t → Moves k q r u v
moves_as k a b c d m x f = omega (arith, m x f, ap (λ (o : Option Hold). weight k (by_hold x f) o) a, ap (λ (o : Option Hold). weight k (by_hold x f) o) b, ap (λ (z : Tracker). by_tracker x f z) c, ap (λ (z : Tracker). by_tracker x f z) d)

pub held_owns : {t : Tracker} {o : Option Hold} {h : Hold} → o ≡ Some h → HasHolds t o → HasHold t h
held_owns {t} e m = subst (HasHolds t) e m

pub gap_closed : (h : Hold) (o : OpenGap) → o ≡ no_gap → (let n : Hold = record h { gap = o } in Some n) ≡ Some (record h { gap = no_gap })
gap_closed h o e = ap (λ (q : OpenGap). let n : Hold = record h { gap = q } in Some n) e

pub ticket_number : (n : ℕ) (j : Ticket) (ks : List Ticket) → find (λ k. k.number == n) ks ≡ Some j → j.number ≡ n
ticket_number n j [] e = absurd (cc)
ticket_number n j (k ∷ ks) e = elim (cases_Bool (k.number == n)) [
  | inl t ↦ let u : Some k ≡ Some j = rw t at e in let i : k ≡ j = cc in ap (λ (q : Ticket). q.number) (sym i) ∙ eqb-true k.number n t
  | inr t ↦ let u = rw t at e in ticket_number n j ks u
]

-- ---- a claim by a hold that is new

claimed_parts : TicketWeights → GapWeights → (k : ℕ) (sub : ByteRange) (t : Tracker) (run : Option ByteRange) (h : Hold) → at_of (Some h) ≡ k → 0 < k → h.ticket ≡ least_unused (numbers t.tickets) → h.sub ≡ sub → h.gap ≡ gap_on (least_unused (ids t.gaps)) run
    → IfSome run (λ g. g.start < g.end) → Moves k None (Some h) t (with_ticket sub (open_gap_at run t))
claimed_parts tw gw k sub t None h at p a b c some tickets f =
    let e : hold_ticket f h ≡ f (least_unused (numbers t.tickets)) sub.start sub.end = rw (a, b) refl in
    omega (arith, weight_no k (hold_ticket f) None (λ e. omega arith), weight_yes k (hold_ticket f) (Some h) at, tw.added f sub t, e)
claimed_parts tw gw k sub t None h at p a b c some gaps f =
    let e : hold_gap f h ≡ 0 = rw c refl in
    omega (arith, weight_no k (hold_gap f) None (λ e. omega arith), weight_yes k (hold_gap f) (Some h) at, e)
claimed_parts tw gw k sub t (Some run) h at p a b c some tickets f =
    let e : hold_ticket f h ≡ f (least_unused (numbers t.tickets)) sub.start sub.end = rw (a, b) refl in
    omega (arith, weight_no k (hold_ticket f) None (λ e. omega arith), weight_yes k (hold_ticket f) (Some h) at, tw.added f sub (open_gap run t), e)
claimed_parts tw gw k sub t (Some run) h at p a b c some gaps f =
    let l : nat_lt run.start run.end ≡ true = grind (arith, nat_tests) in
    let e : hold_gap f h ≡ f (least_unused (ids t.gaps)) run.start run.end = rw (c, l) refl in
    omega (arith, weight_no k (hold_gap f) None (λ e. omega arith), weight_yes k (hold_gap f) (Some h) at, gw.opened f run t, e)

pub moves_claimed : TicketWeights → GapWeights → (k range : ℕ) (r : ℕ) (want : Want) (c : Region) → place r ≡ k → IfSome (claim_run range want.sub c) (λ g. g.start < g.end)
    → Moves k None (Some (hold_on range r want c)) c.tracker (cells.claim range want.sub c).tracker
moves_claimed tw gw k range r want c at some = claimed_parts tw gw k want.sub c.tracker (claim_run range want.sub c) (hold_on range r want c) at (omega (arith, at)) refl refl refl some

-- a claim on a cell that was made anew where nothing was claimed
pub moves_fresh : TicketWeights → GapWeights → (k range : ℕ) (r : ℕ) (want : Want) (t : Tracker) (c : Region) → place r ≡ k → (t.tickets ≡ []) × (t.gaps ≡ []) → (c.tracker.tickets ≡ []) × (c.tracker.gaps ≡ []) → IfSome (claim_run range want.sub c) (λ g. g.start < g.end)
    → Moves k None (Some (hold_on range r want c)) t (cells.claim range want.sub c).tracker
moves_fresh tw gw k range r want t c at a b some x f = omega (arith, moves_claimed tw gw k range r want c at some x f, empty_weighs x f t a.0 a.1, empty_weighs x f c.tracker b.0 b.1)

pub some_run : (P Q R : ByteRange → Type 0) (o p : Option ByteRange) → p ≡ o → IfSome p (λ g. (g.start < g.end) × P g × Q g × R g) → IfSome o (λ g. g.start < g.end)
some_run P Q R None p e h = tt
some_run P Q R (Some g) None e h = absurd (cc)
some_run P Q R (Some g) (Some q) e h = let i : q ≡ g = cc in subst (λ (z : ByteRange). z.start < z.end) i h.0
