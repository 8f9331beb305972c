-- The first state of a core, over cells of which none has a key.
use Rattle.std.proofs.Common.{arith, ◌≡◌, ◌<◌, ◌+◌, ℕ, zero, suc, Bool, false, List, [], ◌∷◌, ◌++◌, sym, subst, ◌∙◌, ap, refl, length, get_or, map, replicate, Option, Some, None}
use Rattle.std.specs.Cmp.{first_so, second_so}
use Rattle.std.specs.Prelude.{◌&&◌, IsTrue, if◌then◌else◌}
use Rattle.std.specs.List.{All, list_all}
use Rattle.std.proofs.lemmas.Bool.{false≢true}
use Rattle.std.proofs.lemmas.List.{length-replicate, length-map}
use Rattle.region_ranges.specs.declared.keys.Config.{Config}
use Rattle.region_ranges.specs.Keys.{IsConfig}
use Rattle.sparse_tracker.specs.declared.gaps.OpenGap.{OpenGap}
use Rattle.sparse_tracker.specs.declared.tickets.Ticket.{Ticket}
use Rattle.sparse_tracker.specs.Weights.{total, by_ticket, by_gap}
use Rattle.cache_policy.specs.Policy.{PolicyView, new_policy, tag_at}
use Rattle.cache_policy.specs.Kept as policy
use Rattle.cache_outside.specs.Frames.{FrameView}
use Rattle.region_cell.specs.Cells as cells
use Rattle.region_cell.specs.Cells.{CellView, new_cell}
use Rattle.cache_door.specs.declared.hold.Hold.{Hold}
use Rattle.cache_door.specs.declared.work.Work.{Work}
use Rattle.cache_door.specs.Machine as machine
use Rattle.cache_door.specs.Machine.{State, Cell, new_state}
use Rattle.cache_door.specs.Good.{GoodCell, weigh_hold, hold_ticket, hold_gap}
use Rattle.cache_door.specs.Cores.{CoreView, core_view, view_at, all_tell, all_steady, all_faults, cell_of, state_of, no_frame, IsKept}
use Rattle.cache_door.proofs.Frames.{cell_is}
use Rattle.cache_door.proofs.Kept.{good_cell}

none_held : (n a : ℕ) → get_or {A = Option Hold} (replicate n None) a None ≡ None
none_held zero a = refl
none_held (suc n) zero = refl
none_held (suc n) (suc a) = none_held n a

none_weigh : (r : ℕ) (f : Hold → ℕ) (n : ℕ) → total (weigh_hold r f) (replicate n None) ≡ 0
none_weigh r f zero = refl
none_weigh r f (suc n) = let e : 0 + total (weigh_hold r f) (replicate n None) ≡ 0 = omega (arith, none_weigh r f n) in e

none_mapped : (regions max_freq delta r : ℕ) → tag_at (new_policy regions max_freq delta) r ≡ None
none_mapped zero m d r = refl
none_mapped (suc n) m d zero = refl
none_mapped (suc n) m d (suc r) = none_mapped n m d r

some_none : {X : Type 0} {o : Option X} {x : X} → o ≡ None → o ≡ Some x → ⊥
some_none e f = cc

pub map_same : {Y : Type 0} (ys : List Y) → map (λ y. y) ys ≡ ys
map_same [] = refl
map_same (y ∷ ys) = ap (λ (l : List _). y ∷ l) (map_same ys)

tell_at : (r : ℕ) (vs : List CellView) → r < length vs → IsTrue (all_tell vs) → IsTrue (view_at vs r).metadata.frame.tells
tell_at r [] h t = absurd (omega (arith, h))
tell_at zero (v ∷ vs) h t = first_so v.metadata.frame.tells (all_tell vs) t
tell_at (suc r) (v ∷ vs) h t = tell_at r vs (omega (arith, h)) (second_so v.metadata.frame.tells (all_tell vs) t)

module _ {X : Type 0} (view : X → FrameView) where
  abbrev faults : X → ℕ
  faults f = (view f).faults

  abbrev size : X → ℕ
  size f = (view f).size

  abbrev tells : X → Bool
  tells f = (view f).tells

  abbrev steady : X → Bool
  steady f = (view f).steady

  abbrev bytes : X → List ℕ
  bytes f = (view f).bytes

  abbrev pub cell_over : ℕ → X → CellView
  cell_over range f = new_cell (view f) range

  pub over_push : (range : ℕ) (fs : List X) (f : X) → map (cell_over range) (fs ++ f ∷ []) ≡ map (cell_over range) fs ++ cell_over range f ∷ []
  over_push range [] f = refl
  over_push range (g ∷ fs) f = ap (λ (l : List CellView). cell_over range g ∷ l) (over_push range fs f)

  pub over_tell : (range : ℕ) (fs : List X) → all_tell (map (cell_over range) fs) ≡ list_all tells fs
  over_tell range [] = refl
  over_tell range (f ∷ fs) = ap (λ b. tells f && b) (over_tell range fs)

  pub over_steady : (range : ℕ) (fs : List X) → all_steady (map (cell_over range) fs) ≡ list_all steady fs
  over_steady range [] = refl
  over_steady range (f ∷ fs) = ap (λ b. steady f && b) (over_steady range fs)

  pub over_faults : (range : ℕ) (fs : List X) → all_faults (map (cell_over range) fs) ≡ total faults fs
  over_faults range [] = refl
  over_faults range (f ∷ fs) = ap (λ n. faults f + n) (over_faults range fs)

  over_cells : (c : Config) (told : Bool) (fs : List X) → All (λ f. size f ≡ c.region) fs → map (cell_of told) (map (cell_over c.range) fs) ≡ map (machine.new_cell c.region) (map (λ f. if told then bytes f else []) fs)
  over_cells c told [] h = refl
  over_cells c told (f ∷ fs) h =
      let e : size f ≡ c.region = h 0 f (omega arith) in
      let tail = over_cells c told fs (λ k d l. h (suc k) d (omega (arith, l))) in
      let P : ℕ → Type 0 = λ n. cell_of told (cell_over c.range f) ∷ map (cell_of told) (map (cell_over c.range) fs) ≡ machine.new_cell n (if told then bytes f else []) ∷ map (machine.new_cell c.region) (map (λ f. if told then bytes f else []) fs) in
      subst P e (ap (λ (l : List Cell). cell_of told (cell_over c.range f) ∷ l) tail)

  pub made_state : (c : Config) (p : PolicyView) (w : Work) (actors : ℕ) (fs : List X) (made : List CellView) → p ≡ new_policy c.regions c.max_freq c.min_delta → made ≡ map (cell_over c.range) fs → All (λ f. size f ≡ c.region) fs
      → state_of (core_view c p made (replicate actors None) (replicate 4096 false) w) ≡ new_state c (list_all tells fs) (map (λ f. if list_all tells fs then bytes f else []) fs) actors
  made_state c p w actors fs made e d h =
      let t = over_tell c.range fs in
      let P : Bool → List Cell → Type 0 = λ b l. l ≡ map (machine.new_cell c.region) (map (λ f. if b then bytes f else []) fs) in
      let S : PolicyView → Bool → List Cell → State = λ q b l. record { config = c; told = b; policy = q; cells = l; holds = replicate actors None; gone = replicate 4096 false } in
      let n = new_policy c.regions c.max_freq c.min_delta in
      ap (λ (l : List CellView). state_of (core_view c p l (replicate actors None) (replicate 4096 false) w)) d
      ∙ ap (λ (q : PolicyView). S q (all_tell (map (cell_over c.range) fs)) (map (cell_of (all_tell (map (cell_over c.range) fs))) (map (cell_over c.range) fs))) e
      ∙ ap (λ (b : Bool). S n b (map (cell_of b) (map (cell_over c.range) fs))) t
      ∙ ap (λ (l : List Cell). S n (list_all tells fs) l) (over_cells c (list_all tells fs) fs h)

  over_sized : (c : Config) (r : ℕ) (fs : List X) → All (λ f. size f ≡ c.region) fs → r < length (map (cell_over c.range) fs)
      → ((view_at (map (cell_over c.range) fs) r).metadata.range ≡ c.range) × ((view_at (map (cell_over c.range) fs) r).metadata.frame.size ≡ c.region)
  over_sized c r [] h l = absurd (omega (arith, l))
  over_sized c zero (f ∷ fs) h l = (refl, h 0 f (omega arith))
  over_sized c (suc r) (f ∷ fs) h l = over_sized c r fs (λ k d m. h (suc k) d (omega (arith, m))) (omega (arith, l))

  over_tickets : (range r : ℕ) (fs : List X) → (view_at (map (cell_over range) fs) r).metadata.region.tracker.tickets ≡ []
  over_tickets range r [] = refl
  over_tickets range zero (f ∷ fs) = refl
  over_tickets range (suc r) (f ∷ fs) = over_tickets range r fs

  over_gaps : (range r : ℕ) (fs : List X) → (view_at (map (cell_over range) fs) r).metadata.region.tracker.gaps ≡ []
  over_gaps range r [] = refl
  over_gaps range zero (f ∷ fs) = refl
  over_gaps range (suc r) (f ∷ fs) = over_gaps range r fs

  module _ (c : Config) (w : Work) (actors : ℕ) (fs : List X) (config : IsConfig c) (count : length fs ≡ c.regions) (sizes : All (λ f. size f ≡ c.region) fs) (few : (0 < actors) × (actors < 65)) where
    abbrev first : CoreView
    first = core_view c (new_policy c.regions c.max_freq c.min_delta) (map (cell_over c.range) fs) (replicate actors None) (replicate 4096 false) w

    first_kept : {ts : Bool} {files : ℕ → ℕ → List ℕ} → policy.IsGood first.policy → All (λ x. cells.IsGood ts files x) first.cells → IsKept ts files first
    first_kept {ts} {files} good all = record {
      good = record {
        config = config;
        counts = record {
          cells = length-map first.cells (cell_of (all_tell first.cells)) ∙ length-map fs (cell_over c.range) ∙ count;
          tags = length-replicate {A = Option ℕ} c.regions None;
          lists = length-replicate {A = List ℕ} c.max_freq [];
          gone = length-replicate {A = Bool} 4096 false;
          delta = refl;
          actors = let l = length-replicate {A = Option Hold} actors None in (omega (arith, l, few.0), omega (arith, l, few.1));
        };
        policy = good;
        mapped = λ r tag e. absurd (some_none (none_mapped c.regions c.max_freq c.min_delta r) e);
        leaving = λ r e. absurd (false≢true e);
        holds = λ a h e. absurd (some_none (none_held actors a) e);
        tickets = λ r f h. none_weigh r (hold_ticket f) actors ∙ sym (ap (λ (l : List Ticket). total (by_ticket f) l) (ap (λ (x : Cell). x.region.tracker.tickets) (cell_is first r (at r h)) ∙ over_tickets c.range r fs));
        gaps = λ r f h. none_weigh r (hold_gap f) actors ∙ sym (ap (λ (l : List OpenGap). total (by_gap f) l) (ap (λ (x : Cell). x.region.tracker.gaps) (cell_is first r (at r h)) ∙ over_gaps c.range r fs));
        cells = λ r h.
            let k = at r h in
            let s = over_sized c r fs sizes k in
            let P : Cell → Type 0 = λ x. GoodCell ts (all_tell first.cells) files c x in
            subst P (sym (cell_is first r k)) (good_cell (all_tell first.cells) c (view_at first.cells r) (all r (new_cell no_frame 0) k) s.0 s.1 (tell_at r first.cells k));
      };
      sized = λ r h. over_sized c r fs sizes h;
    }
      where
        at : (r : ℕ) → r < length (state_of first).cells → r < length first.cells
        at r h = let l = length-map first.cells (cell_of (all_tell first.cells)) in omega (arith, l, h)

    pub made_kept : {ts : Bool} {files : ℕ → ℕ → List ℕ} (p : PolicyView) (made : List CellView) → p ≡ new_policy c.regions c.max_freq c.min_delta → policy.IsGood p → made ≡ map (cell_over c.range) fs → All (λ x. cells.IsGood ts files x) made
        → IsKept ts files (core_view c p made (replicate actors None) (replicate 4096 false) w)
    made_kept {ts} {files} p made e good d all =
        let P : PolicyView → Type 0 = λ q. policy.IsGood q in
        let Q : List CellView → Type 0 = λ l. All (λ x. cells.IsGood ts files x) l in
        let R : List CellView → Type 0 = λ l. IsKept ts files (core_view c p l (replicate actors None) (replicate 4096 false) w) in
        let S : PolicyView → Type 0 = λ q. IsKept ts files (core_view c q (map (cell_over c.range) fs) (replicate actors None) (replicate 4096 false) w) in
        subst R (sym d) (subst S (sym e) (first_kept (subst P e good) (subst Q d all)))
