use Rattle.region_cell.proofs.Kept.{len_claim, len_progress, len_fail}
use Rattle.region_cell.proofs.laws.len_stays.Goals as goal

pub returns : goal.returns
returns c = record { claim = len_claim; progress = len_progress; fail = len_fail }
