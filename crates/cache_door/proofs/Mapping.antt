-- The front free region is mapped and assigned: nobody holds it, so its cell has neither tickets nor gaps, and the good state is kept.
use Rattle.std.proofs.Common.{arith, ◌≡◌, ◌≢◌, ◌<◌, ℕ, suc, Bool, true, false, List, [], ◌∷◌, sym, subst, ◌∙◌, ap, inl, inr, refl, length, drop, get_or, Option, Some, None}
use Rattle.std.specs.Prelude.{◌==◌, ◌||◌, if◌then◌else◌}
use Rattle.std.specs.List.{list_any}
use Rattle.std.proofs.lemmas.Bool.{cases_eq, false≢true, eq-eqb, ne_eqb}
use Rattle.std.proofs.lemmas.List.{get_or-set_same, get_or-set_other, length-set}
use Rattle.region_ranges.specs.Keys.{free_tag}
use Rattle.sparse_tracker.specs.Weights.{total, tickets_weigh, gaps_weigh}
use Rattle.freq_lists.specs.Lists.{is_in, head}
use Rattle.cache_policy.specs.Policy.{tag_at}
use Rattle.cache_policy.specs.Ageing.{map_front}
use Rattle.cache_policy.specs.Kept as policy
use Rattle.region_cell.specs.Cells as cells
use Rattle.cache_door.specs.declared.hold.Hold.{Hold}
use Rattle.cache_door.specs.Machine.{State, Cell, cell_at, hold_at, with_cell, no_cell, is_on, is_held}
use Rattle.cache_door.specs.Good.{Good, GoodCell, HoldFits, TicketsOwned, GapsOwned, weigh_hold, hold_ticket, hold_gap}
use Rattle.cache_door.proofs.Weighs.{total_off}
use Rattle.freq_lists.proofs.Counts.{length_push as length-push}

-- ---- nobody holds a free region

pub head_in : (r : ℕ) (xs : List ℕ) → head xs ≡ Some r → is_in r xs ≡ true
head_in r [] e = absurd (cc)
head_in r (x ∷ xs) e = let i : x ≡ r = (cc) in rw (eq-eqb x r i) refl

-- no hold is on r
any_off : (r : ℕ) (os : List (Option Hold)) → ((a : ℕ) (h : Hold) → get_or os a None ≡ Some h → ¬ (h.region ≡ r)) → list_any (is_on r) os ≡ false
any_off r [] n = refl
any_off r (None ∷ os) n = any_off r os (λ a h e. n (suc a) h e)
any_off r (Some k ∷ os) n = rw (ne_eqb k.region r (n 0 k refl)) (any_off r os (λ a h e. n (suc a) h e))

pub free_unheld : {tells : Bool} {files : ℕ → ℕ → List ℕ} (s : State) (r : ℕ) → Good tells files s → is_in r s.policy.free ≡ true → is_held s r ≡ false
free_unheld s r good e = any_off r s.holds (λ a h i j. let P : ℕ → Type 0 = λ k. is_in k s.policy.free ≡ false in false≢true (sym (subst P j (good.holds a h i).busy) ∙ e))

-- so its cell has no tickets and no gaps
pub no_weight : {X : Type 0} (xs : List X) → total (λ (x : X). 1) xs ≡ 0 → xs ≡ []
no_weight [] e = refl
no_weight (x ∷ xs) e = absurd (omega (arith, e))

pub no_tickets : {tells : Bool} {files : ℕ → ℕ → List ℕ} (s : State) (r : ℕ) → Good tells files s → r < length s.cells → is_held s r ≡ false → (cell_at s r).region.tracker.tickets ≡ []
no_tickets s r good inside off = no_weight (cell_at s r).region.tracker.tickets (sym (good.tickets r (λ n i e. 1) inside) ∙ total_off r (hold_ticket (λ n i e. 1)) s.holds off)

pub no_gaps : {tells : Bool} {files : ℕ → ℕ → List ℕ} (s : State) (r : ℕ) → Good tells files s → r < length s.cells → is_held s r ≡ false → (cell_at s r).region.tracker.gaps ≡ []
no_gaps s r good inside off = no_weight (cell_at s r).region.tracker.gaps (sym (good.gaps r (λ n i e. 1) inside) ∙ total_off r (hold_gap (λ n i e. 1)) s.holds off)

-- ---- the new mapping

pub record Maps (tells : Bool) (files : ℕ → ℕ → List ℕ) (s : State) (r tag now len : ℕ) (c : Cell) : Type 0 where
  pub region : r < length s.cells
  pub front : head s.policy.free ≡ Some r
  pub key : tag ≢ free_tag
  pub policy : policy.IsGood (map_front r tag now s.policy)
  pub tags : (j : ℕ) → tag_at (map_front r tag now s.policy) j ≡ (if j == r then Some tag else tag_at s.policy j)
  pub assigned : c.region ≡ cells.assign tag len (cell_at s r).region
  pub cell : GoodCell tells s.told files s.config c

-- behind the front of the free list
rest_in : (j : ℕ) (xs : List ℕ) → is_in j xs ≡ false → is_in j (drop 1 xs) ≡ false
rest_in j [] e = refl
rest_in j (x ∷ xs) e = (or_second (x == j) (is_in j xs) e)
  where
    or_second : (a b : Bool) → (a || b) ≡ false → b ≡ false
    or_second true b e = absurd (false≢true (sym e))
    or_second false b e = e

module _ {tells : Bool} {files : ℕ → ℕ → List ℕ} (s : State) (r tag now len : ℕ) (c : Cell) (good : Good tells files s) (new : Maps tells files s r tag now len c) where
  abbrev next : State
  next = record (with_cell r c s) { policy = map_front r tag now s.policy }

  off : is_held s r ≡ false
  off = free_unheld s r good (head_in r s.policy.free new.front)

  here : cell_at next r ≡ c
  here = get_or-set_same s.cells r c no_cell new.region

  there : (k : ℕ) → ¬ (r ≡ k) → cell_at next k ≡ cell_at s k
  there k n = get_or-set_other s.cells r k c no_cell (λ e. n (sym e))

  new_tag : c.region.tag ≡ tag
  new_tag = ap (λ (x : cells.Region). x.tag) new.assigned

  -- no hold is on r
  apart : (a : ℕ) (h : Hold) → hold_at s a ≡ Some h → ¬ (r ≡ h.region)
  apart a h e i =
      let P : ℕ → Type 0 = λ k. is_in k s.policy.free ≡ false in
      false≢true (sym (subst P (sym i) (good.holds a h e).busy) ∙ head_in r s.policy.free new.front)

  fit : (a : ℕ) (h : Hold) → hold_at s a ≡ Some h → HoldFits next h
  fit a h e = let f = good.holds a h e in record {
    region = let l = length-set s.cells r c in omega (arith, f.region);
    tag = rw (there h.region (apart a h e)) f.tag;
    key = f.key;
    busy = rest_in h.region s.policy.free f.busy;
  }

  all_mapped : (j t : ℕ) → tag_at next.policy j ≡ Some t → ((cell_at next j).region.tag ≡ t) × (t ≢ free_tag)
  all_mapped j t e = elim (cases_eq r j) [
    | inl i ↦
        let h : tag ≡ t = (let g = rw (eq-eqb j r (sym i)) at (new.tags j) in cc) in
        let P : ℕ → Type 0 = λ k. (cell_at next k).region.tag ≡ t in
        (subst P i (ap (λ (x : Cell). x.region.tag) here ∙ new_tag ∙ h), λ f. new.key (h ∙ f))
    | inr n ↦
        let g : tag_at s.policy j ≡ Some t = sym (rw (ne_eqb j r (λ i. n (sym i))) at (new.tags j)) ∙ e in
        let m = good.mapped j t g in
        (ap (λ (x : Cell). x.region.tag) (there j n) ∙ m.0, m.1)
  ]

  all_leaving : (j : ℕ) → is_in j s.policy.leaving ≡ true → (cell_at next j).region.tag ≢ free_tag
  all_leaving j e f = elim (cases_eq r j) [
    | inl i ↦
        let P : ℕ → Type 0 = λ k. (cell_at next k).region.tag ≡ free_tag in
        new.key (sym (ap (λ (x : Cell). x.region.tag) here ∙ new_tag) ∙ subst P (sym i) f)
    | inr n ↦ good.leaving j e (sym (ap (λ (x : Cell). x.region.tag) (there j n)) ∙ f)
  ]

  own_tickets : TicketsOwned next
  own_tickets k f inside = elim (cases_eq r k) [
    | inl e ↦
        let P : ℕ → Type 0 = λ j. total (weigh_hold j (hold_ticket f)) s.holds ≡ tickets_weigh f (cell_at next j).region.tracker in
        subst P e (total_off r (hold_ticket f) s.holds off ∙ sym (ap (λ (x : Cell). tickets_weigh f x.region.tracker) here ∙ ap (λ (x : cells.Region). tickets_weigh f x.tracker) new.assigned))
    | inr n ↦
        let l = length-set s.cells r c in
        good.tickets k f (omega (arith, l, inside)) ∙ sym (ap (λ (x : Cell). tickets_weigh f x.region.tracker) (there k n))
  ]

  own_gaps : GapsOwned next
  own_gaps k f inside = elim (cases_eq r k) [
    | inl e ↦
        let P : ℕ → Type 0 = λ j. total (weigh_hold j (hold_gap f)) s.holds ≡ gaps_weigh f (cell_at next j).region.tracker in
        subst P e (total_off r (hold_gap f) s.holds off ∙ sym (ap (λ (x : Cell). gaps_weigh f x.region.tracker) here ∙ ap (λ (x : cells.Region). gaps_weigh f x.tracker) new.assigned))
    | inr n ↦
        let l = length-set s.cells r c in
        good.gaps k f (omega (arith, l, inside)) ∙ sym (ap (λ (x : Cell). gaps_weigh f x.region.tracker) (there k n))
  ]

  all_cells : (k : ℕ) → k < length next.cells → GoodCell tells s.told files s.config (cell_at next k)
  all_cells k inside = elim (cases_eq r k) [
    | inl e ↦
        let P : ℕ → Type 0 = λ j. GoodCell tells s.told files s.config (cell_at next j) in
        let Q : Cell → Type 0 = λ x. GoodCell tells s.told files s.config x in
        subst P e (subst Q (sym here) new.cell)
    | inr n ↦
        let l = length-set s.cells r c in
        let Q : Cell → Type 0 = λ x. GoodCell tells s.told files s.config x in
        subst Q (sym (there k n)) (good.cells k (omega (arith, l, inside)))
  ]

  pub maps_keeps : Good tells files next
  maps_keeps = record {
    config = good.config;
    counts = record {
      cells = length-set s.cells r c ∙ good.counts.cells;
      tags = length-set s.policy.tags r (Some tag) ∙ good.counts.tags;
      lists = length-push 0 r s.policy.lists ∙ good.counts.lists;
      gone = good.counts.gone;
      delta = good.counts.delta;
      actors = good.counts.actors;
    };
    policy = new.policy;
    mapped = all_mapped;
    leaving = all_leaving;
    holds = fit;
    tickets = own_tickets;
    gaps = own_gaps;
    cells = all_cells;
  }
