use Rattle.std.proofs.Common.{◌≡◌}
use Rattle.std.specs.Prelude.{vec_len}
use Rattle.shared_run.specs.Dealt.{AreRooms}
use Rattle.shared_run.proofs.deal.rooms.Given as goal

abbrev pub invariant-loop-worker : goal.invariant-loop-worker
invariant-loop-worker l = (vec_len l.rooms ≡ l.worker) × AreRooms l.workers 0 l.block l.rooms.items
