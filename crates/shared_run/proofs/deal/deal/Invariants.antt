use Rattle.std.proofs.Common.{◌≡◌, ◌≤◌, ◌+◌, map, take, drop}
use Rattle.std.specs.Prelude.{vec_len, vec_capacity}
use Rattle.std.specs.Vec.Iter.{into_iter_items, into_iter_len}
use Rattle.shared_run.specs.Workers.{IsIdle}
use Rattle.shared_run.specs.Dealt.{AllDealt, without_shares}
use Rattle.shared_run.proofs.deal.deal.Given as goal

abbrev pub invariant-loop : goal.invariant-loop
invariant-loop g l = record {
  count : vec_len l.jobs ≡ l.counter;
  space : l.workers ≤ vec_capacity l.jobs;
  sources : map (λ j. j.source) l.jobs.items ≡ take l.counter (into_iter_items l.fn.sources);
  others : into_iter_items l.sources ≡ drop l.counter (into_iter_items l.fn.sources);
  left : into_iter_len l.sources + l.counter ≡ into_iter_len l.fn.sources;
  replies : map (λ j. j.replies) l.jobs.items ≡ take l.counter (into_iter_items l.fn.rooms);
  rest : into_iter_items l.rooms ≡ drop l.counter (into_iter_items l.fn.rooms);
  rooms : into_iter_len l.rooms + l.counter ≡ into_iter_len l.fn.rooms;
  shares : AllDealt l.cache l.fn.pass (map (λ j. j.pass) l.jobs.items);
  idle : IsIdle l.cache l.pass;
  pass : l.pass ≡ without_shares l.counter l.fn.pass;
}
