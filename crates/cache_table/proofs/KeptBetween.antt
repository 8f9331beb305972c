-- The rule of the table keeps the cache between two steps.
use Rattle.std.proofs.Common.{◌≡◌, ℕ, zero, suc, refl, ◌<◌, ◌≤◌, Bool, List, arith}
use Rattle.std.specs.Prelude.{◌%◌, slice_index}
use Rattle.atomic_table.specs.Table.{State}
use Rattle.cache_table.specs.Abouts.{About}
use Rattle.cache_table.specs.Rule.{last_place, Ruled, Shelved}
use Rattle.cache_table.specs.declared.view.View.{View}
use Rattle.cache_table.specs.declared.home.Home.{Home}
use Rattle.cache_table.specs.declared.home.Home.TheVariants.{Policy, Cell, Away}
use Rattle.cache_table.specs.Between.{CellKept, IsKept, Keeps}

module _ {A F : Type 0} (told : Bool) (files : ℕ → ℕ → List ℕ) (a : About) (s : State (Home A F) View) (h : Ruled told files a s) where
  cell_kept : (r : ℕ) → Shelved told files a s.homes (suc r) (slice_index s.words (suc r)) → CellKept told files s (suc r)
  cell_kept r (Policy p, e, f) = absurd f
  cell_kept r (Away, e, f) = absurd f
  cell_kept r (Cell c, e, f) = record { cell = c; home = e; tag = f.tag; good = f.good }

  bytes : (k : ℕ) → 0 < k → k ≤ last_place a → k % 8 ≡ 0 → slice_index s.words k % 2 ≡ 0 → CellKept told files s k
  bytes zero above within whole free = absurd (omega (arith, above))
  bytes (suc r) above within whole free = cell_kept r (h.free (suc r) within free whole)

  by_policy : Shelved told files a s.homes 0 (slice_index s.words 0) → IsKept told files a s
  by_policy (Cell c, e, f) = absurd f
  by_policy (Away, e, f) = absurd f
  by_policy (Policy p, e, f) = record {
    policy = p;
    home = e;
    listed = f.good;
    regions = f.regions;
    holders = h.held;
    keys = λ j v is held. ((h.sound j v is).tagged held).1;
    bytes = bytes;
  }

  pub kept : slice_index s.words 0 % 2 ≡ 0 → IsKept told files a s
  kept free = by_policy (h.free 0 (omega arith) free refl)

pub kept_between : {A F K : Type 0} (told : Bool) (files : ℕ → ℕ → List ℕ) (about : K → About) → Keeps {A = A} {F = F} told files about (λ key. Ruled told files (about key))
kept_between told files about = λ key s h free. kept told files (about key) s h free
