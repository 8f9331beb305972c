use Rattle.std.proofs.Common.{arith}
use Rattle.cache_door.specs.Cores.{core_view}
use Rattle.cache_door.proofs.Held.{inside, ticket_here, leave_all}
use Rattle.cache_door.proofs.cache.Core.leave.Goals as goal

pub index_mut-cell-requires : goal.index_mut-cell-requires
index_mut-cell-requires g c =
    let i = c.self.inside in
    let h = inside (core_view i.config i.policy i.cells.items i.holds.items i.gone.items i.work) c.args.self.now c.self.view_is c.self.invariant c.args.actor c.index.result.now c.in-Some.hold c.index.ensures c.in-Some.is c.requires.actor in
    omega (arith, h)

pub leave-requires : goal.leave-requires
leave-requires g c =
    let i = c.self.inside in
    ticket_here (core_view i.config i.policy i.cells.items i.holds.items i.gone.items i.work) c.args.self.now c.self.view_is c.self.invariant c.args.actor c.index.result.now c.in-Some.hold c.index.ensures c.in-Some.is c.requires.actor
    c.index_mut-cell.result.now c.index_mut-cell.ensures.value

pub invariant_of-self : goal.invariant_of-self
invariant_of-self g c =
    let i = c.self.inside in
    (leave_all (core_view i.config i.policy i.cells.items i.holds.items i.gone.items i.work) c.args.self.now c.self.view_is c.self.invariant c.args.actor c.index.result.now c.in-Some.hold c.index.ensures c.in-Some.is c.requires.actor
    c.index_mut-cell.result.now c.index_mut-cell.ensures.value c.leave.new.self c.leave.ensures c.lesson.ensures.good c.ticket_weights.ensures c.gap_weights.ensures c.requires.closed i.work).0

pub returns-clause-state : goal.returns-clause-state
returns-clause-state g c =
    let i = c.self.inside in
    (leave_all (core_view i.config i.policy i.cells.items i.holds.items i.gone.items i.work) c.args.self.now c.self.view_is c.self.invariant c.args.actor c.index.result.now c.in-Some.hold c.index.ensures c.in-Some.is c.requires.actor
    c.index_mut-cell.result.now c.index_mut-cell.ensures.value c.leave.new.self c.leave.ensures c.lesson.ensures.good c.ticket_weights.ensures c.gap_weights.ensures c.requires.closed i.work).1

pub returns-clause-later : goal.returns-clause-later
returns-clause-later g c =
    let i = c.self.inside in
    (leave_all (core_view i.config i.policy i.cells.items i.holds.items i.gone.items i.work) c.args.self.now c.self.view_is c.self.invariant c.args.actor c.index.result.now c.in-Some.hold c.index.ensures c.in-Some.is c.requires.actor
    c.index_mut-cell.result.now c.index_mut-cell.ensures.value c.leave.new.self c.leave.ensures c.lesson.ensures.good c.ticket_weights.ensures c.gap_weights.ensures c.requires.closed i.work).2
