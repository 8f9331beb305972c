use Rattle.std.proofs.Common.{arith, ◌≡◌, ◌≤◌, ◌∙◌, sym, ap, length, max}
use Rattle.sparse_tracker.specs.ByteStates.{TrackerView, Tracker, wait_for_range, new_claim}
use Rattle.sparse_tracker.specs.Kept.{byte_state_at, byte_states_of}
use Rattle.sparse_tracker.proofs.Ties.{seen, claimed_is, waited_none, waited_some, claimed, length-byte_states}
use Rattle.sparse_tracker.proofs.Stores.{viewed_same, stored_waited, stored_opened, waited_claim_none, waited_claim_some}
use Rattle.sparse_tracker.proofs.tracker.Tracker.wait_for_range.Goals as goal

pub returns-in-None-clause-ok : goal.returns-in-None-clause-ok
returns-in-None-clause-ok c =
    let t = c.self.inside in
    let whole = c.self.view_is ∙ c.in_ok-reserve.ensures.ok in
    let same : seen t.len t.taken.ranges t.gaps.items t.tickets.items ≡ c.args.self.now.tracker = ap (λ (v : TrackerView). v.tracker) whole in
    let first : t.first_len ≡ c.args.self.now.first_len = ap (λ (v : TrackerView). v.first_len) whole in
    let spare : t.spare ≡ max c.args.self.now.spare 1 = ap (λ (v : TrackerView). v.spare) whole in
    let inside : c.args.range.end ≤ length (byte_states_of t.len t.taken.ranges t.gaps.items) = rw (ap (λ (u : Tracker). u.byte_states) same) c.requires.range in
    let none = claimed_is t.len t.taken.ranges t.gaps.items t.tickets.items c.args.range c.args.sub c.self.invariant.0.gaps inside ∙ sym c.in-None.ensures.run in
    let p = waited_none c.args.range c.args.sub (seen t.len t.taken.ranges t.gaps.items t.tickets.items) none ∙ ap (wait_for_range c.args.range c.args.sub) same in
    rw (c.push_ticket-ticket.ensures.items, c.push_ticket-ticket.ensures.number) (viewed_same _ _ _ _ _ _ first (omega (arith, spare)) p)

pub returns-in-None-clause-claim : goal.returns-in-None-clause-claim
returns-in-None-clause-claim c =
    let t = c.self.inside in
    let whole = c.self.view_is ∙ c.in_ok-reserve.ensures.ok in
    let same : seen t.len t.taken.ranges t.gaps.items t.tickets.items ≡ c.args.self.now.tracker = ap (λ (v : TrackerView). v.tracker) whole in
    let inside : c.args.range.end ≤ length (byte_states_of t.len t.taken.ranges t.gaps.items) = rw (ap (λ (u : Tracker). u.byte_states) same) c.requires.range in
    let none = claimed_is t.len t.taken.ranges t.gaps.items t.tickets.items c.args.range c.args.sub c.self.invariant.0.gaps inside ∙ sym c.in-None.ensures.run in
    rw c.push_ticket-ticket.ensures.number (waited_claim_none c.args.range c.args.sub (seen t.len t.taken.ranges t.gaps.items t.tickets.items) none ∙ ap (new_claim c.args.range c.args.sub) same)

pub returns-in-Some-clause-ok : goal.returns-in-Some-clause-ok
returns-in-Some-clause-ok c =
    let t = c.self.inside in
    let run = c.in-Some.run' in
    let whole = c.self.view_is ∙ c.in_ok-reserve.ensures.ok in
    let same : seen t.len t.taken.ranges t.gaps.items t.tickets.items ≡ c.args.self.now.tracker = ap (λ (v : TrackerView). v.tracker) whole in
    let first : t.first_len ≡ c.args.self.now.first_len = ap (λ (v : TrackerView). v.first_len) whole in
    let spare : t.spare ≡ max c.args.self.now.spare 1 = ap (λ (v : TrackerView). v.spare) whole in
    let inside : c.args.range.end ≤ length (byte_states_of t.len t.taken.ranges t.gaps.items) = rw (ap (λ (u : Tracker). u.byte_states) same) c.requires.range in
    let some = claimed_is t.len t.taken.ranges t.gaps.items t.tickets.items c.args.range c.args.sub c.self.invariant.0.gaps inside ∙ sym c.in-Some.ensures.run in
    let byte_states = claimed t.len t.taken.ranges c.open-id.new.taken.ranges run c.open-id.result c.open-id.ensures.places c.in-Some.ensures.some.3 t.gaps.items c.self.invariant.0.gaps in
    let p = waited_some c.args.range c.args.sub run (seen t.len t.taken.ranges t.gaps.items t.tickets.items) some ∙ ap (wait_for_range c.args.range c.args.sub) same in
    rw (c.open-id.ensures.gaps, byte_states, c.open-id.ensures.id, c.push_ticket-ticket-in-Some.ensures.items, c.push_ticket-ticket-in-Some.ensures.number) (viewed_same _ _ _ _ _ _ first (omega (arith, spare)) p)

pub returns-in-Some-clause-claim : goal.returns-in-Some-clause-claim
returns-in-Some-clause-claim c =
    let t = c.self.inside in
    let run = c.in-Some.run' in
    let whole = c.self.view_is ∙ c.in_ok-reserve.ensures.ok in
    let same : seen t.len t.taken.ranges t.gaps.items t.tickets.items ≡ c.args.self.now.tracker = ap (λ (v : TrackerView). v.tracker) whole in
    let inside : c.args.range.end ≤ length (byte_states_of t.len t.taken.ranges t.gaps.items) = rw (ap (λ (u : Tracker). u.byte_states) same) c.requires.range in
    let some = claimed_is t.len t.taken.ranges t.gaps.items t.tickets.items c.args.range c.args.sub c.self.invariant.0.gaps inside ∙ sym c.in-Some.ensures.run in
    rw (c.open-id.ensures.id, c.push_ticket-ticket-in-Some.ensures.number) (waited_claim_some c.args.range c.args.sub run (seen t.len t.taken.ranges t.gaps.items t.tickets.items) some ∙ ap (new_claim c.args.range c.args.sub) same)

pub invariant_of-self : goal.invariant_of-self
invariant_of-self c =
    let t = c.self.inside in
    let s = c.self.invariant in
    let whole = c.self.view_is ∙ c.in_ok-reserve.ensures.ok in
    let same : seen t.len t.taken.ranges t.gaps.items t.tickets.items ≡ c.args.self.now.tracker = ap (λ (v : TrackerView). v.tracker) whole in
    let len : length (byte_states_of t.len t.taken.ranges t.gaps.items) ≡ t.len = length-byte_states t.len (byte_state_at t.taken.ranges t.gaps.items) 0 in
    let most = rw (sym (ap (λ (u : Tracker). u.byte_states) same), len) at c.requires.range in
    let spare : t.spare ≡ max c.args.self.now.spare 1 = ap (λ (v : TrackerView). v.spare) whole in
    let some : 1 ≤ t.spare = omega (arith, spare) in
    let push = c.push_ticket-ticket.ensures in (
      rw push.items (stored_waited t.first_len t.len t.taken.ranges t.gaps.items t.tickets.items _ s.0 push.number c.requires.sub.0 (omega (arith, most, c.requires.sub))),
      record { changes = omega (arith, some, s.1.changes); gaps = omega (arith, some, s.1.gaps); tickets = omega (arith, some, s.1.tickets, push.len, push.capacity); ids = omega (arith, some, s.1.ids); numbers = omega (arith, some, s.1.numbers, push.len) },
    )

pub invariant_of-self-in-Some : goal.invariant_of-self-in-Some
invariant_of-self-in-Some c =
    let t = c.self.inside in
    let s = c.self.invariant in
    let whole = c.self.view_is ∙ c.in_ok-reserve.ensures.ok in
    let same : seen t.len t.taken.ranges t.gaps.items t.tickets.items ≡ c.args.self.now.tracker = ap (λ (v : TrackerView). v.tracker) whole in
    let len : length (byte_states_of t.len t.taken.ranges t.gaps.items) ≡ t.len = length-byte_states t.len (byte_state_at t.taken.ranges t.gaps.items) 0 in
    let most = rw (sym (ap (λ (u : Tracker). u.byte_states) same), len) at c.requires.range in
    let spare : t.spare ≡ max c.args.self.now.spare 1 = ap (λ (v : TrackerView). v.spare) whole in
    let some : 1 ≤ t.spare = omega (arith, spare) in
    let run = c.in-Some.ensures.some in
    let end : c.in-Some.run'.end ≤ t.len = omega (arith, most, run.2) in
    let push = c.push_ticket-ticket-in-Some.ensures in
    let more = stored_opened t.first_len t.len c.open-id.result t.taken.ranges c.open-id.new.taken.ranges c.in-Some.run' t.gaps.items t.tickets.items s.0 c.open-id.ensures.id c.open-id.ensures.places run.3 run.1 end in (
      rw (push.items, c.open-id.ensures.gaps) (stored_waited t.first_len t.len c.open-id.new.taken.ranges _ t.tickets.items _ more push.number c.requires.sub.0 (omega (arith, most, c.requires.sub))),
      record { changes = omega (arith, some, s.1.changes, c.open-id.ensures.spare, c.open-id.ensures.len); gaps = omega (arith, some, s.1.gaps, c.open-id.ensures.len, c.open-id.ensures.capacity); tickets = omega (arith, some, s.1.tickets, push.len, push.capacity); ids = omega (arith, some, s.1.ids, c.open-id.ensures.len); numbers = omega (arith, some, s.1.numbers, push.len) },
    )
