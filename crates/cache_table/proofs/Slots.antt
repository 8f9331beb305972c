-- What a slot in hand holds is what was taken with it.
use Rattle.std.proofs.Common.{ℕ, ◌≡◌, ◌∙◌, sym, ap, List, [], ◌∷◌}
use Rattle.region_cell.specs.Cells.{CellView}
use Rattle.cache_table.specs.declared.home.Home.{Home}
use Rattle.cache_table.specs.declared.home.Home.TheVariants.{Policy, Cell, Away}

module _ {A F : Type 0} where
  abbrev first : List (ℕ × Home A F) → Home A F
  first [] = Away
  first (p ∷ ps) = p.1

  abbrev cell_or : CellView → Home A F → CellView
  cell_or x (Policy p) = x
  cell_or x (Cell c) = c
  cell_or x Away = x

  -- the cell read from the slot is the one with which the turn was taken
  pub same_cell : (k : ℕ) (c d : CellView) (y : Home A F) (slots r s : List (ℕ × Home A F)) → slots ≡ (k, y) ∷ r → slots ≡ (k, Cell c) ∷ s → y ≡ Cell d → d ≡ c
  same_cell k c d y slots r s found taken is = ap (cell_or c) (sym is ∙ sym (ap first found) ∙ ap first taken)
