use Rattle.std.proofs.Common.{arith}
use Rattle.cache_door.specs.Cores.{core_view}
use Rattle.cache_door.proofs.Held.{inside}
use Rattle.cache_door.proofs.Stored.{store_gap, store_piece, stored_all, faulted_kept, faulted_same, faulted_later, store_fault, store_steady}
use Rattle.cache_door.proofs.cache.Core.store.Goals as goal

pub index_mut-cell-requires : goal.index_mut-cell-requires
index_mut-cell-requires g c = let i = c.self.inside in let h = inside (core_view i.config i.policy i.cells.items i.holds.items i.gone.items i.work) c.args.self.now c.self.view_is c.self.invariant c.args.actor c.index.result.now c.in-Some.hold c.index.ensures c.in-Some.is c.requires.actor in omega (arith, h)

pub store-requires-clause-gap : goal.store-requires-clause-gap
store-requires-clause-gap g c = let i = c.self.inside in store_gap (core_view i.config i.policy i.cells.items i.holds.items i.gone.items i.work) c.args.self.now c.self.view_is c.self.invariant c.args.actor c.index.result.now c.in-Some.hold c.index.ensures c.in-Some.is c.requires.actor c.index_mut-cell.result.now c.index_mut-cell.ensures.value c.args.piece.now c.requires.piece

pub store-requires-clause-piece : goal.store-requires-clause-piece
store-requires-clause-piece g c = let i = c.self.inside in store_piece (core_view i.config i.policy i.cells.items i.holds.items i.gone.items i.work) c.args.self.now c.self.view_is c.self.invariant c.args.actor c.index.result.now c.in-Some.hold c.index.ensures c.in-Some.is c.requires.actor c.index_mut-cell.result.now c.index_mut-cell.ensures.value c.args.piece.now c.requires.piece

pub invariant_of-self : goal.invariant_of-self
invariant_of-self g c = let i = c.self.inside in (stored_all (core_view i.config i.policy i.cells.items i.holds.items i.gone.items i.work) c.args.self.now c.self.view_is c.self.invariant c.args.actor c.index.result.now c.in-Some.hold c.index.ensures c.in-Some.is c.requires.actor c.index_mut-cell.result.now c.index_mut-cell.ensures.value c.args.piece.now c.requires.piece c.store.new.self c.store.ensures.rest.same c.store.ensures.rest.frame c.in-Ok.ensures.ok c.lesson-in-Ok.ensures.good c.ticket_weights.ensures c.gap_weights.ensures c.stored.result (rw c.bytes.ensures.value at c.stored.ensures) c.store-in-Ok.new.self).0

pub returns-in-Ok-clause-state : goal.returns-in-Ok-clause-state
returns-in-Ok-clause-state g c = let i = c.self.inside in (stored_all (core_view i.config i.policy i.cells.items i.holds.items i.gone.items i.work) c.args.self.now c.self.view_is c.self.invariant c.args.actor c.index.result.now c.in-Some.hold c.index.ensures c.in-Some.is c.requires.actor c.index_mut-cell.result.now c.index_mut-cell.ensures.value c.args.piece.now c.requires.piece c.store.new.self c.store.ensures.rest.same c.store.ensures.rest.frame c.in-Ok.ensures.ok c.lesson-in-Ok.ensures.good c.ticket_weights.ensures c.gap_weights.ensures c.stored.result (rw c.bytes.ensures.value at c.stored.ensures) c.store-in-Ok.new.self).1

pub returns-in-Ok-clause-later : goal.returns-in-Ok-clause-later
returns-in-Ok-clause-later g c = let i = c.self.inside in (stored_all (core_view i.config i.policy i.cells.items i.holds.items i.gone.items i.work) c.args.self.now c.self.view_is c.self.invariant c.args.actor c.index.result.now c.in-Some.hold c.index.ensures c.in-Some.is c.requires.actor c.index_mut-cell.result.now c.index_mut-cell.ensures.value c.args.piece.now c.requires.piece c.store.new.self c.store.ensures.rest.same c.store.ensures.rest.frame c.in-Ok.ensures.ok c.lesson-in-Ok.ensures.good c.ticket_weights.ensures c.gap_weights.ensures c.stored.result (rw c.bytes.ensures.value at c.stored.ensures) c.store-in-Ok.new.self).2

pub invariant_of-self-in-Err : goal.invariant_of-self-in-Err
invariant_of-self-in-Err g c = let i = c.self.inside in faulted_kept (core_view i.config i.policy i.cells.items i.holds.items i.gone.items i.work) c.args.self.now c.self.view_is c.self.invariant c.args.actor c.index.result.now c.in-Some.hold c.index.ensures c.in-Some.is c.requires.actor c.index_mut-cell.result.now c.index_mut-cell.ensures.value c.args.piece.now c.requires.piece c.store.new.self c.store.ensures.rest.same c.store.ensures.rest.frame c.in-Err.ensures.err c.in-Err.ensures.outside c.lesson-in-Err.ensures.good c.turn_away.new.self

pub returns-in-Err-clause-same : goal.returns-in-Err-clause-same
returns-in-Err-clause-same g c = let i = c.self.inside in faulted_same (core_view i.config i.policy i.cells.items i.holds.items i.gone.items i.work) c.args.self.now c.self.view_is c.self.invariant c.args.actor c.index.result.now c.in-Some.hold c.index.ensures c.in-Some.is c.requires.actor c.index_mut-cell.result.now c.index_mut-cell.ensures.value c.args.piece.now c.requires.piece c.store.new.self c.store.ensures.rest.same c.store.ensures.rest.frame c.in-Err.ensures.err c.in-Err.ensures.outside c.turn_away.new.self

pub returns-in-Err-clause-fault : goal.returns-in-Err-clause-fault
returns-in-Err-clause-fault g c = let i = c.self.inside in record {
  rose = store_fault (core_view i.config i.policy i.cells.items i.holds.items i.gone.items i.work) c.args.self.now c.self.view_is c.self.invariant c.args.actor c.index.result.now c.in-Some.hold c.index.ensures c.in-Some.is c.requires.actor c.index_mut-cell.result.now c.index_mut-cell.ensures.value c.args.piece.now c.requires.piece c.store.new.self c.store.ensures.rest.same c.store.ensures.rest.frame c.in-Err.ensures.fault.rose;
  unsteady = λ all. c.in-Err.ensures.fault.unsteady (store_steady (core_view i.config i.policy i.cells.items i.holds.items i.gone.items i.work) c.args.self.now c.self.view_is c.self.invariant c.args.actor c.index.result.now c.in-Some.hold c.index.ensures c.in-Some.is c.requires.actor c.index_mut-cell.result.now c.index_mut-cell.ensures.value c.args.piece.now c.requires.piece c.store.new.self c.store.ensures.rest.same c.store.ensures.rest.frame all);
}

pub returns-in-Err-clause-later : goal.returns-in-Err-clause-later
returns-in-Err-clause-later g c = let i = c.self.inside in faulted_later (core_view i.config i.policy i.cells.items i.holds.items i.gone.items i.work) c.args.self.now c.self.view_is c.self.invariant c.args.actor c.index.result.now c.in-Some.hold c.index.ensures c.in-Some.is c.requires.actor c.index_mut-cell.result.now c.index_mut-cell.ensures.value c.args.piece.now c.requires.piece c.store.new.self c.store.ensures.rest.same c.store.ensures.rest.frame c.in-Err.ensures.err c.in-Err.ensures.outside c.turn_away.new.self
