use Rattle.std.proofs.Common.{arith, ◌∙◌, sym, refl}
use Rattle.sparse_tracker.specs.declared.status.Status.TheVariants as status_of
use Rattle.sparse_tracker.specs.ByteStates.{ticket_of}
use Rattle.region_cell.proofs.Kept.{copied, copied_bytes}
use Rattle.region_cell.proofs.Statuses.{known, Held, held, waiting_for}
use Rattle.region_cell.proofs.cell.RegionCell.copy.Goals as goal
use Rattle.region_cell.proofs.cell.RegionCell.copy.Goals.{in-Ok, in-Err}

pub unreachable-requires : goal.unreachable-requires
unreachable-requires g c =
    let h = held c.args.ticket c.self.inside.tracker.tracker c.status.result (ticket_of c.args.ticket c.self.inside.tracker.tracker) refl c.status.ensures in
    (known _ _ c.args.ticket h.ticket c.self.invariant.3.ranged h.is).settled (h.state ∙ c.in-Open.is)

pub overflow_cast-sub : goal.overflow_cast-sub
overflow_cast-sub g c =
    let w = waiting_for _ _ c.args.ticket c.waits_for-sub.result c.self.invariant.3.ranged (ticket_of c.args.ticket c.self.inside.tracker.tracker) refl c.waits_for-sub.ensures in
    let z = c.self.invariant.3.sized in
    omega (arith, w.some, w.most, z.len, z.size)

pub get-requires : goal.get-requires
get-requires g c =
    let w = waiting_for _ _ c.args.ticket c.waits_for-sub.result c.self.invariant.3.ranged (ticket_of c.args.ticket c.self.inside.tracker.tracker) refl c.waits_for-sub.ensures in
    let z = c.self.invariant.3.sized in
    let l = rw (← c.self.view_is) at c.requires.len in
    let n = rw w.is at l in
    omega (arith, w.some, w.most, w.begins, w.ends, z.len, n)

pub returns-after-get-clause-bytes : goal.returns-after-get-clause-bytes
returns-after-get-clause-bytes g c =
    let t = c.self.inside.tracker.tracker in
    let w = waiting_for _ _ c.args.ticket c.waits_for-sub.result c.self.invariant.3.ranged (ticket_of c.args.ticket t) refl c.waits_for-sub.ensures in
    let s = held c.args.ticket t c.status.result (ticket_of c.args.ticket t) refl c.status.ensures in
    let r : Held c.args.ticket t status_of.Ready = record { ticket = s.ticket; is = s.is; state = s.state ∙ c.in-Ready.is } in
    let l = rw (← c.self.view_is) at c.requires.len in
    rw (← c.self.view_is) (λ e. (elim c.match-get.branch [
      | in-Ok o ↦ copied_bytes _ _ _ c.self.invariant.3 c.args.ticket _ c.waits_for-sub.result c.get.new.out w r l (λ n. o.in-Ok.ensures.got n)
      | in-Err o ↦ absurd (let q = sym e ∙ o.result-is in cc)
    ]))

pub returns-after-get-clause-content : goal.returns-after-get-clause-content
returns-after-get-clause-content g c =
    let t = c.self.inside.tracker.tracker in
    let w = waiting_for _ _ c.args.ticket c.waits_for-sub.result c.self.invariant.3.ranged (ticket_of c.args.ticket t) refl c.waits_for-sub.ensures in
    let s = held c.args.ticket t c.status.result (ticket_of c.args.ticket t) refl c.status.ensures in
    let r : Held c.args.ticket t status_of.Ready = record { ticket = s.ticket; is = s.is; state = s.state ∙ c.in-Ready.is } in
    let l = rw (← c.self.view_is) at c.requires.len in
    rw (← c.self.view_is) (λ e. (elim c.match-get.branch [
      | in-Ok o ↦ copied _ _ _ c.self.invariant.3 c.args.ticket _ c.waits_for-sub.result c.get.new.out w r l (λ n. o.in-Ok.ensures.got n)
      | in-Err o ↦ absurd (let q = sym e ∙ o.result-is in cc)
    ]))
