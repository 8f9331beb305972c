use Rattle.std.proofs.Common.{arith}
use Rattle.cache_door.specs.Cores.{core_view}
use Rattle.cache_door.proofs.Held.{inside, ticket_here}
use Rattle.cache_door.proofs.Looked.{seen_state, seen_kept, seen_later, seen_fault, seen_steady, copy_len, copy_answer, copy_bytes, copy_content}
use Rattle.cache_door.proofs.cache.Core.take_bytes.Goals as goal

pub index_mut-cell-requires : goal.index_mut-cell-requires
index_mut-cell-requires g c = let i = c.self.inside in let h = inside (core_view i.config i.policy i.cells.items i.holds.items i.gone.items i.work) c.args.self.now c.self.view_is c.self.invariant c.args.actor c.index.result.now c.in-Some.hold c.index.ensures c.in-Some.is c.requires.actor in omega (arith, h)

pub copy-taken-requires-clause-ticket : goal.copy-taken-requires-clause-ticket
copy-taken-requires-clause-ticket g c = let i = c.self.inside in ticket_here (core_view i.config i.policy i.cells.items i.holds.items i.gone.items i.work) c.args.self.now c.self.view_is c.self.invariant c.args.actor c.index.result.now c.in-Some.hold c.index.ensures c.in-Some.is c.requires.actor c.index_mut-cell.result.now c.index_mut-cell.ensures.value

pub copy-taken-requires-clause-len : goal.copy-taken-requires-clause-len
copy-taken-requires-clause-len g c = let i = c.self.inside in copy_len (core_view i.config i.policy i.cells.items i.holds.items i.gone.items i.work) c.args.self.now c.self.view_is c.self.invariant c.args.actor c.index.result.now c.in-Some.hold c.index.ensures c.in-Some.is c.requires.actor c.index_mut-cell.result.now c.index_mut-cell.ensures.value _ c.requires.len

pub invariant_of-self : goal.invariant_of-self
invariant_of-self g c = let i = c.self.inside in seen_kept (core_view i.config i.policy i.cells.items i.holds.items i.gone.items i.work) c.args.self.now c.self.view_is c.self.invariant c.in-Some.hold.region (inside (core_view i.config i.policy i.cells.items i.holds.items i.gone.items i.work) c.args.self.now c.self.view_is c.self.invariant c.args.actor c.index.result.now c.in-Some.hold c.index.ensures c.in-Some.is c.requires.actor) c.index_mut-cell.result.now c.copy-taken.new.self c.index_mut-cell.ensures.value c.copy-taken.ensures.same.same c.copy-taken.ensures.same.frame c.take.new.self

pub returns-clause-state : goal.returns-clause-state
returns-clause-state g c = let i = c.self.inside in seen_state (core_view i.config i.policy i.cells.items i.holds.items i.gone.items i.work) c.args.self.now c.self.view_is c.self.invariant c.in-Some.hold.region (inside (core_view i.config i.policy i.cells.items i.holds.items i.gone.items i.work) c.args.self.now c.self.view_is c.self.invariant c.args.actor c.index.result.now c.in-Some.hold c.index.ensures c.in-Some.is c.requires.actor) c.index_mut-cell.result.now c.copy-taken.new.self c.index_mut-cell.ensures.value c.copy-taken.ensures.same.same c.copy-taken.ensures.same.frame c.take.new.self

pub returns-clause-answer : goal.returns-clause-answer
returns-clause-answer g c = let i = c.self.inside in copy_answer (core_view i.config i.policy i.cells.items i.holds.items i.gone.items i.work) c.args.self.now c.self.view_is c.self.invariant c.args.actor c.index.result.now c.in-Some.hold c.index.ensures c.in-Some.is c.requires.actor c.index_mut-cell.result.now c.index_mut-cell.ensures.value c.copy-taken.result c.copy-taken.ensures.answer c.lesson.ensures.settled

pub returns-clause-copied : goal.returns-clause-copied
returns-clause-copied g c e told = let i = c.self.inside in copy_bytes (core_view i.config i.policy i.cells.items i.holds.items i.gone.items i.work) c.args.self.now c.self.view_is c.self.invariant c.args.actor c.index.result.now c.in-Some.hold c.index.ensures c.in-Some.is c.requires.actor c.index_mut-cell.result.now c.index_mut-cell.ensures.value c.copy-taken.new.out told (c.copy-taken.ensures.bytes e)

pub returns-clause-bytes : goal.returns-clause-bytes
returns-clause-bytes g c e archive told = let i = c.self.inside in copy_content (core_view i.config i.policy i.cells.items i.holds.items i.gone.items i.work) c.args.self.now c.self.view_is c.self.invariant c.args.actor c.index.result.now c.in-Some.hold c.index.ensures c.in-Some.is c.requires.actor c.index_mut-cell.result.now c.index_mut-cell.ensures.value c.copy-taken.new.out archive told (c.copy-taken.ensures.content e)

pub returns-clause-fault : goal.returns-clause-fault
returns-clause-fault g c e = let i = c.self.inside in record {
  rose = seen_fault (core_view i.config i.policy i.cells.items i.holds.items i.gone.items i.work) c.args.self.now c.self.view_is c.self.invariant c.in-Some.hold.region (inside (core_view i.config i.policy i.cells.items i.holds.items i.gone.items i.work) c.args.self.now c.self.view_is c.self.invariant c.args.actor c.index.result.now c.in-Some.hold c.index.ensures c.in-Some.is c.requires.actor) c.index_mut-cell.result.now c.copy-taken.new.self c.index_mut-cell.ensures.value c.copy-taken.ensures.same.same c.copy-taken.ensures.same.frame (c.copy-taken.ensures.fault e).rose;
  unsteady = λ all. (c.copy-taken.ensures.fault e).unsteady (seen_steady (core_view i.config i.policy i.cells.items i.holds.items i.gone.items i.work) c.args.self.now c.self.view_is c.self.invariant c.in-Some.hold.region (inside (core_view i.config i.policy i.cells.items i.holds.items i.gone.items i.work) c.args.self.now c.self.view_is c.self.invariant c.args.actor c.index.result.now c.in-Some.hold c.index.ensures c.in-Some.is c.requires.actor) c.index_mut-cell.result.now c.copy-taken.new.self c.index_mut-cell.ensures.value c.copy-taken.ensures.same.same c.copy-taken.ensures.same.frame all);
}

pub returns-clause-later : goal.returns-clause-later
returns-clause-later g c = let i = c.self.inside in seen_later (core_view i.config i.policy i.cells.items i.holds.items i.gone.items i.work) c.args.self.now c.self.view_is c.self.invariant c.in-Some.hold.region (inside (core_view i.config i.policy i.cells.items i.holds.items i.gone.items i.work) c.args.self.now c.self.view_is c.self.invariant c.args.actor c.index.result.now c.in-Some.hold c.index.ensures c.in-Some.is c.requires.actor) c.index_mut-cell.result.now c.copy-taken.new.self c.index_mut-cell.ensures.value c.copy-taken.ensures.same.same c.copy-taken.ensures.same.frame c.take.new.self
