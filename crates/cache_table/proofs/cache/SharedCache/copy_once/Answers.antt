use Rattle.std.proofs.Common.{◌≡◌, ◌≢◌, ◌∙◌, sym, ap, subst, refl, Some}
use Rattle.std.specs.Prelude.{IsTrue}
use Rattle.sparse_tracker.specs.ByteStates.{Tracker, byte_states_in, lacks}
use Rattle.region_cell.specs.Cells.{CellView, CellMetadata}
use Rattle.cache_table.specs.Rule.{at_of}
use Rattle.std.specs.List.{list_any}
use Rattle.sparse_tracker.specs.ByteStates.{ticket_of, status, is_absent}
use Rattle.sparse_tracker.specs.declared.status.Status.TheVariants as status_of
use Rattle.cache_table.proofs.Turned.{held_owns, failed_lacks, failed_marked}
use Rattle.cache_table.proofs.cache.SharedCache.copy_once.Goals as goal

pub returns-clause-failed : goal.returns-clause-failed
returns-clause-failed g c =
    let h = c.args.hold.now in let e = c.take_cell-word.ensures in let t = c.take_cell-word.result.1.metadata.region.tracker in
    let own = (held_owns c.requires.held (e.mine (ap at_of c.requires.held)).1).ticket in
    let k = own.0 in
    let f = (rw own.1 at (rw c.get_mut-cell.ensures.value at c.copy-taken.ensures.answer)).failed in
    let same : c.copy-taken.new.self.metadata.region.tracker ≡ t = ap (λ (v : CellView). v.metadata.region.tracker) c.copy-taken.ensures.same.same ∙ ap (λ (v : CellView). v.metadata.region.tracker) c.get_mut-cell.ensures.value in
    let settled : status k t ≢ status_of.Open = subst (λ (z : Tracker). ticket_of h.ticket z ≡ Some k → status k z ≢ status_of.Open) same (c.lesson.ensures.settled h.ticket k) own.1 in
    let s = failed_lacks (byte_states_in k.start k.end t.byte_states) k.failed settled in
    let at : lacks h.sub t ≡ list_any is_absent (byte_states_in k.start k.end t.byte_states) = rw (own.2, own.3) refl in
    let now : c.give_cell.new.seat.me.0.cell.region.tracker ≡ t = ap (λ (n : CellMetadata). n.region.tracker) (c.give_cell.ensures.region.2 ∙ sym e.cell.0) in
    ((λ i. subst (λ (z : Tracker). IsTrue (lacks h.sub z)) (sym now) (at ∙ s.0 (f.0 i))), (λ i. f.1 (s.1 (sym at ∙ subst (λ (z : Tracker). IsTrue (lacks h.sub z)) now i))))

pub returns-clause-marked : goal.returns-clause-marked
returns-clause-marked g c fails =
    let h = c.args.hold.now in let e = c.take_cell-word.ensures in let t = c.take_cell-word.result.1.metadata.region.tracker in
    let own = (held_owns c.requires.held (e.mine (ap at_of c.requires.held)).1).ticket in
    let k = own.0 in
    let f = (rw own.1 at (rw c.get_mut-cell.ensures.value at c.copy-taken.ensures.answer)).failed in
    let now : c.give_cell.new.seat.me.0.cell.region.tracker ≡ t = ap (λ (n : CellMetadata). n.region.tracker) (c.give_cell.ensures.region.2 ∙ sym e.cell.0) in
    (k, ap (ticket_of h.ticket) now ∙ own.1, failed_marked (byte_states_in k.start k.end t.byte_states) k.failed (f.0 fails))
