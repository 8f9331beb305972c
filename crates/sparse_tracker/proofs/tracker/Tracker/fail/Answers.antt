use Rattle.std.proofs.Common.{arith, ◌≡◌, ◌∙◌, sym, ap, length}
use Rattle.std.specs.Prelude.{map}
use Rattle.std.proofs.lemmas.List.{length-map}
use Rattle.sparse_tracker.specs.Kept.{mark}
use Rattle.sparse_tracker.proofs.Stores.{bounds_of, viewed, stored_failed, failed_is, first_part}
use Rattle.sparse_tracker.proofs.tracker.Tracker.fail.Goals as goal

pub close-requires-clause-order : goal.close-requires-clause-order
close-requires-clause-order c =
    let t = c.self.inside in
    let b = bounds_of c.args.gap t.len t.taken.ranges t.gaps.items c.take_gap-lost.result c.self.invariant.0.gaps c.take_gap-lost.ensures.gap in
    omega (arith, b)

pub invariant_of-self : goal.invariant_of-self
invariant_of-self c =
    let t = c.self.inside in
    let s = c.self.invariant in
    let o = c.take_gap-lost.result in
    let marked : c.mark_tickets.new.tickets ≡ map (mark o) t.tickets.items = c.mark_tickets.ensures ∙ ap (map (mark o)) c.deref_mut.ensures.value in
    let count : length (map (mark o) t.tickets.items) ≡ t.tickets.len = length-map t.tickets.items (mark o) ∙ sym (ap (length) c.deref_mut.ensures.value) ∙ c.deref_mut.ensures.len in (
      rw (c.take_gap-lost.ensures.items, marked, first_part t.tickets.len (map (mark o) t.tickets.items) _ count) (stored_failed c.args.gap t.first_len t.len t.taken.ranges c.close.new.taken.ranges t.gaps.items t.tickets.items o s.0 c.take_gap-lost.ensures.gap c.close.ensures.places),
      record { changes = omega (arith, s.1.changes, c.take_gap-lost.ensures.len, c.close.ensures.spare); gaps = omega (arith, s.1.gaps, c.take_gap-lost.ensures.len, c.take_gap-lost.ensures.capacity); tickets = s.1.tickets; ids = omega (arith, s.1.ids, c.take_gap-lost.ensures.len); numbers = s.1.numbers },
    )

pub returns : goal.returns
returns c =
    let t = c.self.inside in
    let s = c.self.invariant in
    let o = c.take_gap-lost.result in
    let marked : c.mark_tickets.new.tickets ≡ map (mark o) t.tickets.items = c.mark_tickets.ensures ∙ ap (map (mark o)) c.deref_mut.ensures.value in
    let count : length (map (mark o) t.tickets.items) ≡ t.tickets.len = length-map t.tickets.items (mark o) ∙ sym (ap (length) c.deref_mut.ensures.value) ∙ c.deref_mut.ensures.len in
    rw (← c.self.view_is, c.take_gap-lost.ensures.items, marked, first_part t.tickets.len (map (mark o) t.tickets.items) _ count) (ap (viewed t.first_len t.spare) (failed_is c.args.gap t.first_len t.len t.taken.ranges c.close.new.taken.ranges t.gaps.items t.tickets.items o s.0 c.take_gap-lost.ensures.gap c.close.ensures.places))
