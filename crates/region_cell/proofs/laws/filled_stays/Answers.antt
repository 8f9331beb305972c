use Rattle.region_cell.proofs.Filled.{filled_assign, filled_claim, filled_progress, filled_as_outside, filled_fail, filled_leave}
use Rattle.region_cell.proofs.laws.filled_stays.Goals as goal

pub returns : goal.returns
returns c = λ files size. record {
  assign = filled_assign files size;
  claim = filled_claim files size;
  stored = λ g o k bytes piece good is inside long short right f. filled_progress files size g k bytes piece good o is f inside long short right;
  unstored = filled_as_outside files size;
  fail = filled_fail files size;
  leave = filled_leave files size;
}
