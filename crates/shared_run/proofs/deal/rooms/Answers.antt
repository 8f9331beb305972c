use Rattle.std.proofs.Common.{arith, ◌≡◌, ◌≤◌, ◌+◌, ◌∙◌, ℕ, length, ap, sym, subst}
use Rattle.std.specs.Prelude.{vec_capacity}
use Rattle.shared_run.specs.Dealt.{AreRooms}
use Rattle.shared_run.proofs.Deals.{rooms_more}
use Rattle.shared_run.proofs.deal.rooms.Goals as goal

pub loop-worker-preserved : goal.loop-worker-preserved
loop-worker-preserved c =
    let i = c.loop-worker.invariant in
    let worker = c.loop-worker.worker in
    let old = c.loop-worker.rooms in
    let room = c.in_ok-room.room in
    let at : worker ≡ 0 + length old.items = omega (arith, i.0, old.ok.0) in
    let wide = subst (λ (n : ℕ). n ≤ vec_capacity room) c.share_len.ensures c.in_ok-room.ensures.capacity in (
      c.in_ok-push.ensures.len ∙ ap (λ (n : ℕ). n + 1) i.0,
      subst (AreRooms c.args.workers 0 c.args.block.now) (sym c.in_ok-push.ensures.items) (rooms_more c.args.workers 0 worker c.args.block.now old.items room at i.1 c.in_ok-room.ensures.items c.in_ok-room.ensures.len wide),
    )
