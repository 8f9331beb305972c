use Rattle.std.proofs.Common.{◌≡◌, ◌≤◌, ◌+◌, ◌++◌, length, map}
use Rattle.std.specs.Prelude.{vec_len, vec_capacity}
use Rattle.std.specs.Vec.Iter.{into_iter_items, into_iter_len}
use Rattle.shared_run.specs.Workers.{IsIdle}
use Rattle.shared_run.specs.Gathered.{JoinedAll}
use Rattle.shared_run.proofs.gather.gather.Given as goal

abbrev pub invariant-loop-job : goal.invariant-loop-job
invariant-loop-job g l = record {
  sources : l.sources.items ≡ l.fn.sources.items ++ map (λ j. j.source) l.yielded;
  len : vec_len l.sources ≡ vec_len l.fn.sources + length l.yielded;
  room : vec_capacity l.fn.sources ≤ vec_capacity l.sources;
  joined : JoinedAll l.fn.pass (map (λ j. j.pass) l.yielded) l.pass;
  replies : map into_iter_items l.queues.items ≡ map into_iter_items l.fn.queues.items ++ map (λ j. j.replies.items) l.yielded;
  lens : map into_iter_len l.queues.items ≡ map into_iter_len l.fn.queues.items ++ map (λ j. vec_len j.replies) l.yielded;
  many : vec_len l.queues ≡ vec_len l.fn.queues + length l.yielded;
  space : vec_capacity l.fn.queues ≤ vec_capacity l.queues;
  idle : IsIdle l.cache l.pass;
}
