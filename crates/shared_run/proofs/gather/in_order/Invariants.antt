use Rattle.std.proofs.Common.{◌≡◌, ◌≤◌, ◌<◌, ℕ, length, map}
use Rattle.std.specs.Prelude.{vec_len, vec_capacity}
use Rattle.std.specs.Vec.Iter.{into_iter_items, into_iter_len}
use Rattle.shared_run.proofs.Queues.{Split}
use Rattle.shared_run.proofs.gather.in_order.Given as goal

abbrev pub invariant-loop-k : goal.invariant-loop-k
invariant-loop-k l = record {
  count : length l.queues.items ≡ length l.fn.queues.items;
  many : length l.replies.items ≡ l.k;
  len : vec_len l.replies ≡ l.k;
  room : length l.block ≤ vec_capacity l.replies;
  split : (i : ℕ) → i < length l.fn.queues.items → Split (length l.fn.queues.items) l.replies.items (map into_iter_items l.fn.queues.items) (map into_iter_items l.queues.items) (map into_iter_len l.queues.items) l.block i;
}
