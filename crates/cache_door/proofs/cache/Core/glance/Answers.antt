use Rattle.cache_door.specs.Cores.{core_view}
use Rattle.cache_door.proofs.Looked.{seen_state, seen_kept, seen_later, seen_fault, seen_steady, regions_inside, glance_one, glance_answer, glance_bytes, glance_content, not_fault}
use Rattle.cache_door.proofs.cache.Core.glance.Goals as goal

pub invariant_of-self : goal.invariant_of-self
invariant_of-self g c = let i = c.self.inside in seen_kept (core_view i.config i.policy i.cells.items i.holds.items i.gone.items i.work) c.args.self.now c.self.view_is c.self.invariant c.args.region (regions_inside (core_view i.config i.policy i.cells.items i.holds.items i.gone.items i.work) c.args.self.now c.self.view_is c.self.invariant c.args.region c.requires.region) c.index_mut-cell.result.now c.look-seen.new.cell c.index_mut-cell.ensures.value c.look-seen.ensures.same.same c.look-seen.ensures.same.frame c.glance.new.self

pub returns-clause-state : goal.returns-clause-state
returns-clause-state g c = let i = c.self.inside in seen_state (core_view i.config i.policy i.cells.items i.holds.items i.gone.items i.work) c.args.self.now c.self.view_is c.self.invariant c.args.region (regions_inside (core_view i.config i.policy i.cells.items i.holds.items i.gone.items i.work) c.args.self.now c.self.view_is c.self.invariant c.args.region c.requires.region) c.index_mut-cell.result.now c.look-seen.new.cell c.index_mut-cell.ensures.value c.look-seen.ensures.same.same c.look-seen.ensures.same.frame c.glance.new.self

pub returns-clause-answer : goal.returns-clause-answer
returns-clause-answer g c = let i = c.self.inside in glance_answer (core_view i.config i.policy i.cells.items i.holds.items i.gone.items i.work) c.args.self.now c.self.view_is c.self.invariant c.args.region (regions_inside (core_view i.config i.policy i.cells.items i.holds.items i.gone.items i.work) c.args.self.now c.self.view_is c.self.invariant c.args.region c.requires.region) c.index_mut-cell.result.now c.index_mut-cell.ensures.value c.args.want.now c.look-seen.result c.look-seen.ensures.answer

pub returns-clause-copied : goal.returns-clause-copied
returns-clause-copied g c e told = let i = c.self.inside in glance_bytes (core_view i.config i.policy i.cells.items i.holds.items i.gone.items i.work) c.args.self.now c.self.view_is c.self.invariant c.args.region (regions_inside (core_view i.config i.policy i.cells.items i.holds.items i.gone.items i.work) c.args.self.now c.self.view_is c.self.invariant c.args.region c.requires.region) c.index_mut-cell.result.now c.index_mut-cell.ensures.value c.args.want.now c.look-seen.new.out told (c.look-seen.ensures.bytes e)

pub returns-clause-bytes : goal.returns-clause-bytes
returns-clause-bytes g c e archive told = let i = c.self.inside in glance_content (core_view i.config i.policy i.cells.items i.holds.items i.gone.items i.work) c.args.self.now c.self.view_is c.self.invariant c.args.region (regions_inside (core_view i.config i.policy i.cells.items i.holds.items i.gone.items i.work) c.args.self.now c.self.view_is c.self.invariant c.args.region c.requires.region) c.index_mut-cell.result.now c.index_mut-cell.ensures.value c.args.want.now c.look-seen.new.out c.look-seen.result (c.look-seen.ensures.answer.same (not_fault c.look-seen.result e)) e told (c.look-seen.ensures.content e archive)

pub returns-clause-fault : goal.returns-clause-fault
returns-clause-fault g c e = let i = c.self.inside in record {
  rose = seen_fault (core_view i.config i.policy i.cells.items i.holds.items i.gone.items i.work) c.args.self.now c.self.view_is c.self.invariant c.args.region (regions_inside (core_view i.config i.policy i.cells.items i.holds.items i.gone.items i.work) c.args.self.now c.self.view_is c.self.invariant c.args.region c.requires.region) c.index_mut-cell.result.now c.look-seen.new.cell c.index_mut-cell.ensures.value c.look-seen.ensures.same.same c.look-seen.ensures.same.frame (c.look-seen.ensures.fault e).rose;
  unsteady = λ all. (c.look-seen.ensures.fault e).unsteady (seen_steady (core_view i.config i.policy i.cells.items i.holds.items i.gone.items i.work) c.args.self.now c.self.view_is c.self.invariant c.args.region (regions_inside (core_view i.config i.policy i.cells.items i.holds.items i.gone.items i.work) c.args.self.now c.self.view_is c.self.invariant c.args.region c.requires.region) c.index_mut-cell.result.now c.look-seen.new.cell c.index_mut-cell.ensures.value c.look-seen.ensures.same.same c.look-seen.ensures.same.frame all);
}

pub returns-clause-later : goal.returns-clause-later
returns-clause-later g c = let i = c.self.inside in seen_later (core_view i.config i.policy i.cells.items i.holds.items i.gone.items i.work) c.args.self.now c.self.view_is c.self.invariant c.args.region (regions_inside (core_view i.config i.policy i.cells.items i.holds.items i.gone.items i.work) c.args.self.now c.self.view_is c.self.invariant c.args.region c.requires.region) c.index_mut-cell.result.now c.look-seen.new.cell c.index_mut-cell.ensures.value c.look-seen.ensures.same.same c.look-seen.ensures.same.frame c.glance.new.self

pub look-seen-requires-clause-one : goal.look-seen-requires-clause-one
look-seen-requires-clause-one g c = let i = c.self.inside in glance_one (core_view i.config i.policy i.cells.items i.holds.items i.gone.items i.work) c.args.self.now c.self.view_is c.self.invariant c.args.region (regions_inside (core_view i.config i.policy i.cells.items i.holds.items i.gone.items i.work) c.args.self.now c.self.view_is c.self.invariant c.args.region c.requires.region) c.index_mut-cell.result.now c.index_mut-cell.ensures.value c.args.want.now c.requires.want
