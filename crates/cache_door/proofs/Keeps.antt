-- A call on one cell and on one actor's hold keeps the good state, where the tickets and gaps of the cell change as the hold does.
use Rattle.std.proofs.Common.{arith, ◌≡◌, ◌≢◌, ◌<◌, ◌+◌, ℕ, Bool, List, sym, subst, ◌∙◌, ap, inl, inr, length, set, get_or, Option, Some, None}
use Rattle.std.proofs.lemmas.Bool.{cases_eq}
use Rattle.std.proofs.lemmas.List.{get_or-set_same, get_or-set_other, length-set}
use Rattle.sparse_tracker.specs.Weights.{total, tickets_weigh, gaps_weigh}
use Rattle.cache_door.specs.declared.hold.Hold.{Hold}
use Rattle.cache_door.specs.Machine.{State, Cell, cell_at, hold_at, with_hold, with_cell, no_cell}
use Rattle.cache_door.specs.Good.{Good, GoodCell, HoldFits, TicketsOwned, GapsOwned, weigh_hold, hold_ticket, hold_gap}
use Rattle.cache_door.proofs.Weighs.{total-set, weigh, IsOn, weigh_here, weigh_there}

-- the new cell and the new hold of actor a on region r
pub record Changes (tells : Bool) (files : ℕ → ℕ → List ℕ) (s : State) (a r : ℕ) (c : Cell) (o : Option Hold) : Type 0 where
  pub actor : a < length s.holds
  pub region : r < length s.cells
  pub tag : c.region.tag ≡ (cell_at s r).region.tag
  pub cell : GoodCell tells s.told files s.config c
  pub old : IsOn r (hold_at s a)
  pub new : IsOn r o
  pub fits : (h : Hold) → o ≡ Some h → HoldFits s h
  pub tickets : (f : ℕ → ℕ → ℕ → ℕ) → tickets_weigh f c.region.tracker + weigh (hold_ticket f) (hold_at s a) ≡ tickets_weigh f (cell_at s r).region.tracker + weigh (hold_ticket f) o
  pub gaps : (f : ℕ → ℕ → ℕ → ℕ) → gaps_weigh f c.region.tracker + weigh (hold_gap f) (hold_at s a) ≡ gaps_weigh f (cell_at s r).region.tracker + weigh (hold_gap f) o

module _ {tells : Bool} {files : ℕ → ℕ → List ℕ} (s : State) (a r : ℕ) (c : Cell) (o : Option Hold) (good : Good tells files s) (now : Changes tells files s a r c o) where
  abbrev next : State
  next = with_hold a o (with_cell r c s)

  here : cell_at next r ≡ c
  here = get_or-set_same s.cells r c no_cell now.region

  there : (k : ℕ) → r ≢ k → cell_at next k ≡ cell_at s k
  there k n = get_or-set_other s.cells r k c no_cell (λ e. n (sym e))

  same_tag : (k : ℕ) → (cell_at next k).region.tag ≡ (cell_at s k).region.tag
  same_tag k = elim (cases_eq r k) [
    | inl e ↦ let P : ℕ → Type 0 = λ j. (cell_at next j).region.tag ≡ (cell_at s j).region.tag in subst P e (ap (λ (x : Cell). x.region.tag) here ∙ now.tag)
    | inr n ↦ ap (λ (x : Cell). x.region.tag) (there k n)
  ]

  -- a fit hold fits still
  fit : (h : Hold) → HoldFits s h → HoldFits next h
  fit h f = record {
    region = let l = length-set s.cells r c in omega (arith, f.region);
    tag = same_tag h.region ∙ f.tag;
    key = f.key;
    busy = f.busy;
  }

  all_fit : (b : ℕ) (h : Hold) → hold_at next b ≡ Some h → HoldFits next h
  all_fit b h e = elim (cases_eq a b) [
    | inl i ↦
        let P : ℕ → Type 0 = λ j. get_or (set s.holds a o) j None ≡ Some h in
        let at : get_or (set s.holds a o) a None ≡ Some h = subst P (sym i) e in
        fit h (now.fits h (sym (get_or-set_same s.holds a o None now.actor) ∙ at))
    | inr n ↦ fit h (good.holds b h (sym (get_or-set_other s.holds a b o None (λ i. n (sym i))) ∙ e))
  ]

  -- what the holds weigh, at the region and elsewhere
  weighs_here : (f : Hold → ℕ) → total (weigh_hold r f) next.holds + weigh f (hold_at s a) ≡ total (weigh_hold r f) s.holds + weigh f o
  weighs_here f =
      let t = total-set (weigh_hold r f) s.holds a o None now.actor in
      omega (arith, t, weigh_here r f o now.new, weigh_here r f (hold_at s a) now.old)

  weighs_there : (k : ℕ) (f : Hold → ℕ) → r ≢ k → total (weigh_hold k f) next.holds ≡ total (weigh_hold k f) s.holds
  weighs_there k f n =
      let t = total-set (weigh_hold k f) s.holds a o None now.actor in
      omega (arith, t, weigh_there k r f o now.new n, weigh_there k r f (hold_at s a) now.old n)

  tickets_own : TicketsOwned next
  tickets_own k f inside = elim (cases_eq r k) [
    | inl e ↦
        let P : ℕ → Type 0 = λ j. total (weigh_hold j (hold_ticket f)) next.holds ≡ tickets_weigh f (cell_at next j).region.tracker in
        subst P e (rw here (omega (arith, weighs_here (hold_ticket f), now.tickets f, good.tickets r f now.region)))
    | inr n ↦
        let l = length-set s.cells r c in
        rw (weighs_there k (hold_ticket f) n, there k n) (good.tickets k f (omega (arith, l, inside)))
  ]

  gaps_own : GapsOwned next
  gaps_own k f inside = elim (cases_eq r k) [
    | inl e ↦
        let P : ℕ → Type 0 = λ j. total (weigh_hold j (hold_gap f)) next.holds ≡ gaps_weigh f (cell_at next j).region.tracker in
        subst P e (rw here (omega (arith, weighs_here (hold_gap f), now.gaps f, good.gaps r f now.region)))
    | inr n ↦
        let l = length-set s.cells r c in
        rw (weighs_there k (hold_gap f) n, there k n) (good.gaps k f (omega (arith, l, inside)))
  ]

  all_cells : (k : ℕ) → k < length next.cells → GoodCell tells s.told files s.config (cell_at next k)
  all_cells k inside = elim (cases_eq r k) [
    | inl e ↦
        let P : ℕ → Type 0 = λ j. GoodCell tells s.told files s.config (cell_at next j) in
        let Q : Cell → Type 0 = λ x. GoodCell tells s.told files s.config x in
        subst P e (subst Q (sym here) now.cell)
    | inr n ↦
        let l = length-set s.cells r c in
        let Q : Cell → Type 0 = λ x. GoodCell tells s.told files s.config x in
        subst Q (sym (there k n)) (good.cells k (omega (arith, l, inside)))
  ]

  pub keeps : Good tells files next
  keeps = record {
    config = good.config;
    counts = record {
      cells = length-set s.cells r c ∙ good.counts.cells;
      tags = good.counts.tags;
      lists = good.counts.lists;
      gone = good.counts.gone;
      delta = good.counts.delta;
      actors = let l = length-set s.holds a o in (omega (arith, l, good.counts.actors), omega (arith, l, good.counts.actors));
    };
    policy = good.policy;
    mapped = λ k tag e. (same_tag k ∙ (good.mapped k tag e).0, (good.mapped k tag e).1);
    leaving = λ k e f. good.leaving k e (sym (same_tag k) ∙ f);
    holds = all_fit;
    tickets = tickets_own;
    gaps = gaps_own;
    cells = all_cells;
  }
