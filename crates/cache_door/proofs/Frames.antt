-- One cell of a core changes: what that makes of its state, and of the frames all together.
use Rattle.std.proofs.Common.{arith, ◌≡◌, ◌<◌, ◌≤◌, ℕ, zero, suc, Bool, List, [], ◌∷◌, sym, ◌∙◌, ap, inl, inr, refl, length, set, get_or}
use Rattle.std.specs.Prelude.{◌&&◌, IsTrue}
use Rattle.std.specs.List.{list_all}
use Rattle.std.proofs.lemmas.Bool.{cases_Bool, false≢true}
use Rattle.std.proofs.lemmas.List.{map-set, get_or-map}
use Rattle.std.proofs.lemmas.List.Folds.{list_all_at}
use Rattle.region_cell.specs.Cells.{CellView, FrameStays, new_cell}
use Rattle.cache_door.specs.Machine.{cell_at, with_cell, no_cell}
use Rattle.cache_door.specs.Cores.{CoreView, view_at, all_tell, all_steady, all_faults, cell_of, state_of, no_frame}
use Rattle.cache_door.proofs.Weighs.{total-set}

-- an entry is replaced by one that passes a test where it does
all_set : {X : Type 0} (p : X → Bool) (xs : List X) (i : ℕ) (x d : X) → i < length xs → p x ≡ p (get_or xs i d) → list_all p (set xs i x) ≡ list_all p xs
all_set p [] i x d h e = refl
all_set p (y ∷ ys) zero x d h e = ap (λ b. b && list_all p ys) e
all_set p (y ∷ ys) (suc i) x d h e = ap (λ b. p y && b) (all_set p ys i x d (omega (arith, h)) e)

pub set_same : {X : Type 0} (xs : List X) (i : ℕ) (d : X) → i < length xs → set xs i (get_or xs i d) ≡ xs
set_same [] i d h = refl
set_same (y ∷ ys) zero d h = refl
set_same (y ∷ ys) (suc i) d h = ap (λ (l : List _). y ∷ l) (set_same ys i d (omega (arith, h)))

pub set_twice : {X : Type 0} (xs : List X) (i : ℕ) (x y : X) → set (set xs i x) i y ≡ set xs i y
set_twice [] i x y = refl
set_twice (z ∷ zs) zero x y = refl
set_twice (z ∷ zs) (suc i) x y = ap (λ (l : List _). z ∷ l) (set_twice zs i x y)

pub cell_is : (v : CoreView) (r : ℕ) → r < length v.cells → cell_at (state_of v) r ≡ cell_of (all_tell v.cells) (view_at v.cells r)
cell_is v r h = get_or-map (cell_of (all_tell v.cells)) v.cells r (new_cell no_frame 0) no_cell h

module _ (v : CoreView) (r : ℕ) (c : CellView) (inside : r < length v.cells) (frame : FrameStays (view_at v.cells r).metadata.frame c.metadata.frame) where
  abbrev changed : CoreView
  changed = record v { cells = set v.cells r c }

  pub tell_same : all_tell (set v.cells r c) ≡ all_tell v.cells
  tell_same = all_set (λ (x : CellView). x.metadata.frame.tells) v.cells r c (new_cell no_frame 0) inside frame.tells

  pub steady_same : all_steady (set v.cells r c) ≡ all_steady v.cells
  steady_same = all_set (λ (x : CellView). x.metadata.frame.steady) v.cells r c (new_cell no_frame 0) inside frame.steady

  pub faults_later : all_faults v.cells ≤ all_faults (set v.cells r c)
  faults_later = omega (arith, total-set (λ (x : CellView). x.metadata.frame.faults) v.cells r c (new_cell no_frame 0) inside, frame.later)

  pub one_steady : IsTrue (all_steady v.cells) → IsTrue (view_at v.cells r).metadata.frame.steady
  one_steady h = elim (cases_Bool (view_at v.cells r).metadata.frame.steady) [
    | inl t ↦ t
    | inr f ↦ absurd (false≢true (sym (list_all_at (λ (x : CellView). x.metadata.frame.steady) v.cells r (new_cell no_frame 0) inside f) ∙ h))
  ]

  pub faults_stand : IsTrue (all_steady v.cells) → all_faults (set v.cells r c) ≡ all_faults v.cells
  faults_stand h = omega (arith, total-set (λ (x : CellView). x.metadata.frame.faults) v.cells r c (new_cell no_frame 0) inside, frame.stands (one_steady h))

  pub state_set : state_of changed ≡ with_cell r (cell_of (all_tell v.cells) c) (state_of v)
  state_set = rw (tell_same, map-set) refl
