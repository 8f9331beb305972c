use Rattle.std.proofs.Common.{arith, sym, ap, ◌≡◌}
use Rattle.std.proofs.lemmas.Grind.{common_steps}
use Rattle.region_cell.specs.Cells.{CellView, claim_run}
use Rattle.cache_door.proofs.Claimed.{claimed_inside}
use Rattle.cache_door.proofs.claims.claim.Goals as goal

pub returns-clause-inside : goal.returns-clause-inside
returns-clause-inside g c =
    let p = c.lesson.ensures.good.cell.sized.range in
    let gap : c.map.result ≡ claim_run c.args.cell.now.metadata.range c.args.want.now.sub c.args.cell.now.metadata.region = grind (arith, common_steps) in
    claimed_inside c.claim_places.ensures c.args.cell.now.metadata.range c.args.want.now.sub c.args.cell.now.metadata.region (omega (arith, p, ap (λ (v : CellView). v.metadata.range) c.in-Ok.ensures.ok)) c.requires.lies.0 c.requires.lies.1 c.requires.lies.2 c.map.result (sym gap)
