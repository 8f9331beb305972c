use Rattle.std.proofs.Common.{arith, ◌≡◌, sym, subst, Some}
use Rattle.region_ranges.specs.Keys.{tag_of}
use Rattle.freq_lists.specs.Lists.{head}
use Rattle.blob_parts.specs.Content.{content}
use Rattle.cache_door.specs.Doors.{IsWant, HasLength}
use Rattle.cache_door.specs.Cores.{CoreView, core_view}
use Rattle.cache_door.proofs.Entries.{front_inside, assign_gaps, assign_tickets, assign_size, assign_kept}
use Rattle.cache_door.proofs.Claimed.{key_bound}
use Rattle.cache_door.proofs.cache.Core.assign.Goals as goal

pub index_mut-cell-requires : goal.index_mut-cell-requires
index_mut-cell-requires g c =
    let i = c.self.inside in
    let P : CoreView → Type 0 = λ q. head q.policy.free ≡ Some c.args.region in
    let f = subst P (sym c.self.view_is) c.requires.front in
    let h = front_inside (core_view i.config i.policy i.cells.items i.holds.items i.gone.items i.work) c.self.invariant c.args.region f in omega (arith, h)

pub assign-requires-clause-gaps : goal.assign-requires-clause-gaps
assign-requires-clause-gaps g c =
    let i = c.self.inside in
    let P : CoreView → Type 0 = λ q. head q.policy.free ≡ Some c.args.region in
    let f = subst P (sym c.self.view_is) c.requires.front in
    assign_gaps (core_view i.config i.policy i.cells.items i.holds.items i.gone.items i.work) c.args.region c.index_mut-cell.result.now c.self.invariant (front_inside (core_view i.config i.policy i.cells.items i.holds.items i.gone.items i.work) c.self.invariant c.args.region f) c.index_mut-cell.ensures.value f

pub assign-requires-clause-tickets : goal.assign-requires-clause-tickets
assign-requires-clause-tickets g c =
    let i = c.self.inside in
    let P : CoreView → Type 0 = λ q. head q.policy.free ≡ Some c.args.region in
    let f = subst P (sym c.self.view_is) c.requires.front in
    assign_tickets (core_view i.config i.policy i.cells.items i.holds.items i.gone.items i.work) c.args.region c.index_mut-cell.result.now c.self.invariant (front_inside (core_view i.config i.policy i.cells.items i.holds.items i.gone.items i.work) c.self.invariant c.args.region f) c.index_mut-cell.ensures.value f

pub assign-requires-clause-len : goal.assign-requires-clause-len
assign-requires-clause-len g c =
    let i = c.self.inside in
    let P : CoreView → Type 0 = λ q. head q.policy.free ≡ Some c.args.region in
    let f = subst P (sym c.self.view_is) c.requires.front in
    let Q : CoreView → Type 0 = λ q. IsWant q.config c.args.want.now in
    let w = subst Q (sym c.self.view_is) c.requires.want in
    let e = assign_size (core_view i.config i.policy i.cells.items i.holds.items i.gone.items i.work) c.args.region c.index_mut-cell.result.now c.self.invariant (front_inside (core_view i.config i.policy i.cells.items i.holds.items i.gone.items i.work) c.self.invariant c.args.region f) c.index_mut-cell.ensures.value f in
    (w.len.0, omega (arith, w.len.1, e))

pub assign-requires-clause-whole : goal.assign-requires-clause-whole
assign-requires-clause-whole g c t =
    let i = c.self.inside in
    let P : CoreView → Type 0 = λ q. head q.policy.free ≡ Some c.args.region in
    let f = subst P (sym c.self.view_is) c.requires.front in
    let Q : CoreView → Type 0 = λ q. HasLength (content g.A.Archive.blobs) q.config c.args.want.now in
    let w = subst Q (sym c.self.view_is) (c.requires.whole t) in
    rw (assign_size (core_view i.config i.policy i.cells.items i.holds.items i.gone.items i.work) c.args.region c.index_mut-cell.result.now c.self.invariant (front_inside (core_view i.config i.policy i.cells.items i.holds.items i.gone.items i.work) c.self.invariant c.args.region f) c.index_mut-cell.ensures.value f) w

pub invariant_of-self : goal.invariant_of-self
invariant_of-self g c =
    let i = c.self.inside in
    let P : CoreView → Type 0 = λ q. head q.policy.free ≡ Some c.args.region in
    let f = subst P (sym c.self.view_is) c.requires.front in
    assign_kept (core_view i.config i.policy i.cells.items i.holds.items i.gone.items i.work) c.args.region c.index_mut-cell.result.now c.self.invariant (front_inside (core_view i.config i.policy i.cells.items i.holds.items i.gone.items i.work) c.self.invariant c.args.region f) c.index_mut-cell.ensures.value f c.assign.new.self c.map.new.self (tag_of c.args.want.now.key) c.args.now c.args.want.now.len (key_bound c.args.want.now.key c.requires.want.key) c.map.ensures.policy c.lesson.ensures.good c.map.ensures.tags c.assign.ensures c.lesson-2.ensures.good
