use Rattle.region_cell.proofs.Ranged.{ranged_assign, ranged_claim, ranged_progress, ranged_fail, ranged_leave}
use Rattle.region_cell.proofs.laws.ranged_stays.Goals as goal

pub returns : goal.returns
returns c = record {
  assign = ranged_assign;
  claim = λ range sub k some first most one r. ranged_claim range sub k c.claim_places.ensures some r first most one;
  progress = ranged_progress;
  fail = ranged_fail;
  leave = ranged_leave;
}
