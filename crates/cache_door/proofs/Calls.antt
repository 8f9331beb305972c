-- What a claim, a store, a failure and a leave change in a cell is what they change in the actor's hold.
use Rattle.std.proofs.Common.{arith, ◌≡◌, ◌≢◌, ◌<◌, ◌≤◌, ◌+◌, ℕ, zero, suc, Bool, true, false, List, [], ◌∷◌, sym, subst, ◌∙◌, ap, inl, inr, refl, length, Option, Some, None}
use Rattle.std.specs.Prelude.{nat_lt, cond, slice_get, IfSome}
use Rattle.std.proofs.lemmas.Bool.{cases_eq, cases_lt, eq-eqb, ne_eqb}
use Rattle.std.proofs.lemmas.Bool.Decides.{nat_tests}
use Rattle.region_ranges.specs.declared.ranges.ByteRange.{ByteRange}
use Rattle.region_ranges.specs.Keys.{free_tag, tag_of}
use Rattle.sparse_tracker.specs.declared.gaps.OpenGap.{OpenGap}
use Rattle.sparse_tracker.specs.ByteStates.{Tracker, least_unused, numbers, ids, open_gap_at, claimed_run, wait_for_range}
use Rattle.sparse_tracker.specs.Weights.{by_ticket, by_gap, tickets_weigh, gaps_weigh, TicketWeights, GapWeights}
use Rattle.freq_lists.specs.Lists.{is_in}
use Rattle.freq_lists.proofs.Counts.{is_in_not}
use Rattle.cache_policy.specs.Policy.{PolicyView, tag_at}
use Rattle.cache_policy.specs.Kept as policy
use Rattle.region_cell.specs.Cells as cells
use Rattle.region_cell.specs.Cells.{claim_run, range_round}
use Rattle.cache_door.specs.declared.answers.Want.{Want}
use Rattle.cache_door.specs.declared.hold.Hold.{Hold}
use Rattle.cache_door.specs.Machine.{State, Cell, cell_at, hold_at, hold_on, gap_on, no_gap}
use Rattle.cache_door.specs.Good.{Good, GoodCell, HoldFits}
use Rattle.cache_door.proofs.Keeps.{Changes}
use Rattle.cache_door.proofs.Found.{found_ticket, found_gap}

-- ---- a mapped region is not free

past_tags : (ts : List (Option ℕ)) (r : ℕ) → length ts ≤ r → slice_get ts r ≡ None
past_tags [] r h = refl
past_tags (t ∷ ts) zero h = absurd (omega arith)
past_tags (t ∷ ts) (suc r) h = past_tags ts r (omega arith)

pub mapped_inside : (p : PolicyView) (r tag : ℕ) → tag_at p r ≡ Some tag → r < length p.tags
mapped_inside p r tag e = elim (cases_lt r (length p.tags)) [
  | inl l ↦ l
  | inr g ↦ absurd (none_some (sym (rw (past_tags p.tags r g) refl) ∙ e))
]
  where
    none_some : None ≡ Some tag → ⊥
    none_some e = cc

pub mapped_busy : (p : PolicyView) (r tag : ℕ) → policy.IsGood p → tag_at p r ≡ Some tag → is_in r p.free ≡ false
mapped_busy p r tag kept e =
    let one : policy.one_if_some (tag_at p r) ≡ 1 = rw e refl in
    is_in_not r p.free (omega (arith, kept.once r (mapped_inside p r tag e), kept.mapped r, one))

-- ---- a claim

pub tickets_open : (run : Option ByteRange) (t : Tracker) → (open_gap_at run t).tickets ≡ t.tickets
tickets_open None t = refl
tickets_open (Some x) t = refl

claim_tickets : TicketWeights → (f : ℕ → ℕ → ℕ → ℕ) (range sub : ByteRange) (t : Tracker)
    → tickets_weigh f (wait_for_range range sub t) ≡ tickets_weigh f t + f (least_unused (numbers t.tickets)) sub.start sub.end
claim_tickets law f range sub t =
    let run = claimed_run range sub t in
    law.added f sub (open_gap_at run t) ∙ rw (tickets_open run t) refl

-- what a gap weighs that was opened on a run
weigh_gap : (ℕ → ℕ → ℕ → ℕ) → OpenGap → ℕ
weigh_gap f o = cond (nat_lt o.upto o.end) (by_gap f o) 0

gaps_after : GapWeights → (f : ℕ → ℕ → ℕ → ℕ) (run : Option ByteRange) (t : Tracker) → IfSome run (λ x. x.start < x.end)
    → gaps_weigh f (open_gap_at run t) ≡ gaps_weigh f t + weigh_gap f (gap_on (least_unused (ids t.gaps)) run)
unfolding weigh_gap
gaps_after law f None t h = omega arith
gaps_after law f (Some x) t h = let l : nat_lt x.start x.end ≡ true = grind (arith, nat_tests) in law.opened f x t ∙ rw l refl

module _ {tells : Bool} {files : ℕ → ℕ → List ℕ} (tickets : TicketWeights) (gaps : GapWeights) (s : State) (a : ℕ) where
  pub hold_changes : (r : ℕ) (want : Want) (c : Cell) → a < length s.holds → r < length s.cells → hold_at s a ≡ None
      → (cell_at s r).region.tag ≡ tag_of want.key → tag_of want.key ≢ free_tag → is_in r s.policy.free ≡ false
      → IfSome (claim_run s.config.range want.sub (cell_at s r).region) (λ x. x.start < x.end)
      → c.region ≡ cells.claim s.config.range want.sub (cell_at s r).region → GoodCell tells s.told files s.config c
      → Changes tells files s a r c (Some (hold_on s.config.range r want (cell_at s r).region))
  unfolding weigh_gap
  hold_changes r want c actor inside none tag key busy run claimed good =
      let region = (cell_at s r).region in
      let round = range_round s.config.range want.sub region in
      record {
        actor = actor;
        region = inside;
        tag = ap (λ (x : cells.Region). x.tag) claimed;
        cell = good;
        old = rw none tt;
        new = refl;
        fits = λ h e. let P : Hold → Type 0 = λ x. HoldFits s x in subst P (some_same e) (record { region = inside; tag = tag; key = key; busy = busy });
        tickets = λ f. rw (none, claimed) (let t = claim_tickets tickets f round want.sub region.tracker in omega (arith, t));
        gaps = λ f. rw (none, claimed) (let t = gaps_after gaps f (claim_run s.config.range want.sub region) region.tracker run in omega (arith, t));
      }
    where
      some_same : {x y : Hold} → Some x ≡ Some y → x ≡ y
      some_same e = cc

  module _ (h : Hold) (good : Good tells files s) (held : hold_at s a ≡ Some h) (actor : a < length s.holds) where
    pub store_changes : (to : ℕ) (c : Cell) → h.gap.upto < h.gap.end → to ≤ h.gap.end
        → c.region ≡ cells.progress h.gap.id to (cell_at s h.region).region → GoodCell tells s.told files s.config c
        → Changes tells files s a h.region c (Some (record h { gap = record h.gap { upto = to } }))
    store_changes to c opened within moved cell =
        let fits = good.holds a h held in
        let t = (cell_at s h.region).region.tracker in
        record {
          actor = actor;
          region = fits.region;
          tag = ap (λ (x : cells.Region). x.tag) moved;
          cell = cell;
          old = rw held refl;
          new = refl;
          fits = λ k e. let P : Hold → Type 0 = λ x. HoldFits s x in subst P (some_same e) (record { region = fits.region; tag = fits.tag; key = fits.key; busy = fits.busy });
          tickets = λ f. rw (held, moved) refl;
          gaps = λ f. rw (held, moved) (
              let l : nat_lt h.gap.upto h.gap.end ≡ true = grind (arith, nat_tests) in
              let m = gaps.moved f h.gap.id to h.gap t (found_gap s a h good held opened) in
              rw l (elim (cases_eq to h.gap.end) [
                | inl e ↦ let d : nat_lt to h.gap.end ≡ false = grind (arith, nat_tests) in rw d (omega (arith, rw (eq-eqb to h.gap.end e) at m))
                | inr n ↦ let d : nat_lt to h.gap.end ≡ true = grind (arith, nat_tests) in rw d (omega (arith, rw (ne_eqb to h.gap.end n) at m))
              ]));
        }
      where
        some_same : {x y : Hold} → Some x ≡ Some y → x ≡ y
        some_same e = cc

    pub fail_changes : (c : Cell) → h.gap.upto < h.gap.end
        → c.region ≡ cells.fail h.gap.id (cell_at s h.region).region → GoodCell tells s.told files s.config c
        → Changes tells files s a h.region c (Some (record h { gap = no_gap }))
    fail_changes c opened failed cell =
        let fits = good.holds a h held in
        let t = (cell_at s h.region).region.tracker in
        record {
          actor = actor;
          region = fits.region;
          tag = ap (λ (x : cells.Region). x.tag) failed;
          cell = cell;
          old = rw held refl;
          new = refl;
          fits = λ k e. let P : Hold → Type 0 = λ x. HoldFits s x in subst P (some_same e) (record { region = fits.region; tag = fits.tag; key = fits.key; busy = fits.busy });
          tickets = λ f. rw (held, failed) (let m = tickets.failed f h.gap.id t in omega (arith, m));
          gaps = λ f. rw (held, failed) (
              let l : nat_lt h.gap.upto h.gap.end ≡ true = grind (arith, nat_tests) in
              let m = gaps.failed f h.gap.id h.gap t (found_gap s a h good held opened) in
              rw l (omega (arith, m)));
        }
      where
        some_same : {x y : Hold} → Some x ≡ Some y → x ≡ y
        some_same e = cc

    pub leave_changes : (c : Cell) → h.gap.end ≤ h.gap.upto
        → c.region ≡ cells.leave h.ticket (cell_at s h.region).region → GoodCell tells s.told files s.config c
        → Changes tells files s a h.region c None
    leave_changes c closed left cell =
        let fits = good.holds a h held in
        let t = (cell_at s h.region).region.tracker in
        let k = found_ticket s a h good held in
        record {
          actor = actor;
          region = fits.region;
          tag = ap (λ (x : cells.Region). x.tag) left;
          cell = cell;
          old = rw held refl;
          new = tt;
          fits = λ x e. absurd (none_some e);
          tickets = λ f. rw (held, left) (
              let m = tickets.left f h.ticket k.1.0 t k.1.1 in
              let w : by_ticket f k.1.0 ≡ f h.ticket h.sub.start h.sub.end = rw (k.1.2, k.1.3, k.1.4) refl in
              omega (arith, m, w));
          gaps = λ f. rw (held, left) (let l : nat_lt h.gap.upto h.gap.end ≡ false = grind (arith, nat_tests) in rw l refl);
        }
      where
        none_some : {x : Hold} → None ≡ Some x → ⊥
        none_some e = cc
