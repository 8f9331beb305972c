use Rattle.sparse_tracker.proofs.Weighs.{tickets_told}
use Rattle.sparse_tracker.proofs.laws.ticket_weights.Goals as goal

pub returns : goal.returns
returns c = tickets_told
