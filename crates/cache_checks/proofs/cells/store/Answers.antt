use Rattle.std.proofs.Common.{arith, ◌+◌, ◌∙◌, ap, refl, ℕ}
use Rattle.region_cell.specs.Cells.{CellView, progress}
use Rattle.cache_checks.specs.CellSteps.{claimed, begun}
use Rattle.region_cell.proofs.Kept.{ok_then}
use Rattle.cache_checks.proofs.CellLaws.{has_gap, fits, stored, claimed_gap, claimed_tag, is_begun}
use Rattle.cache_checks.proofs.cells.store.Goals as goal

pub store-requires-clause-gap : goal.store-requires-clause-gap
store-requires-clause-gap c = has_gap claimed c.args.cell.now.metadata c.requires.cell 0 _ claimed_gap

pub store-requires-clause-piece : goal.store-requires-clause-piece
store-requires-clause-piece c = fits claimed c.args.cell.now.metadata c.requires.cell 0 2199023255552 0 150 _ c.args.piece.now claimed_gap claimed_tag c.requires.piece refl (omega arith)

pub returns : goal.returns
returns c =
    let e = c.store.ensures in
    let u = ap (λ (n : ℕ). progress 0 (0 + n) claimed) c.requires.piece.size ∙ is_begun in
    ok_then c.store.result (λ i. stored claimed c.args.cell.now.metadata c.requires.cell begun c.args.cell.now _ 0 _ _ refl claimed_gap i u e.rest.frame (ap (λ (v : CellView). v.metadata.range) e.rest.same)) e.ok
