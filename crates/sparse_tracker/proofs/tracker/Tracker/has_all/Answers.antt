use Rattle.std.proofs.Common.{arith, ◌≡◌, ◌≤◌, ◌∙◌, sym, ap, true, false, refl, length, inl, inr}
use Rattle.std.specs.List.{list_any, list_all}
use Rattle.std.proofs.lemmas.Bool.{cases_Bool}
use Rattle.sparse_tracker.specs.ByteStates.{byte_states_in, is_present}
use Rattle.sparse_tracker.specs.Kept.{byte_state_at, byte_states_of, any_free, meets}
use Rattle.sparse_tracker.proofs.Ties.{length-byte_states}
use Rattle.sparse_tracker.proofs.Looks.{lacks_is, lacks_some, status_waiting, status_ready, waiting_lacks, ready_has}
use Rattle.sparse_tracker.proofs.tracker.Tracker.has_all.Goals as goal

pub returns-then-not-has_absent : goal.returns-then-not-has_absent
returns-then-not-has_absent c =
    let t = c.self.inside in
    let ls = byte_states_in c.args.sub.start c.args.sub.end (byte_states_of t.len t.taken.ranges t.gaps.items) in
    let len : length (byte_states_of t.len t.taken.ranges t.gaps.items) ≡ t.len = length-byte_states t.len (byte_state_at t.taken.ranges t.gaps.items) 0 in
    let inside = rw (← c.self.view_is) at c.requires in
    let most : c.args.sub.end ≤ t.len = rw len at inside.1 in
    let full : any_free t.taken.ranges c.args.sub ≡ false = sym c.has_absent.ensures ∙ c.if-not-has_absent.true in
    let met : c.has_pending.result ≡ list_any (meets c.args.sub) t.gaps.items = c.has_pending.ensures ∙ ap (list_any (meets c.args.sub)) c.deref.ensures.value in
    rw (← c.self.view_is) (elim (cases_Bool c.has_pending.result) [
      | inl e ↦
          let w : list_all is_present ls ≡ false = waiting_lacks ls false (status_waiting t.len t.taken.ranges t.gaps.items c.args.sub c.self.invariant.0.gaps c.requires.0 most full false (sym met ∙ e)) in
          rw (e, w) refl
      | inr e ↦
          let w : list_all is_present ls ≡ true = ready_has ls (status_ready t.len t.taken.ranges t.gaps.items c.args.sub c.self.invariant.0.gaps c.requires.0 most full false (sym met ∙ e)) in
          rw (e, w) refl
    ])

pub returns-else-not-has_absent : goal.returns-else-not-has_absent
returns-else-not-has_absent c =
    let t = c.self.inside in
    let ls = byte_states_in c.args.sub.start c.args.sub.end (byte_states_of t.len t.taken.ranges t.gaps.items) in
    let len : length (byte_states_of t.len t.taken.ranges t.gaps.items) ≡ t.len = length-byte_states t.len (byte_state_at t.taken.ranges t.gaps.items) 0 in
    let inside = rw (← c.self.view_is) at c.requires in
    let most : c.args.sub.end ≤ t.len = rw len at inside.1 in
    let some = lacks_is t.len t.taken.ranges t.gaps.items c.args.sub c.self.invariant.0.gaps (omega (arith, inside)) most ∙ sym c.has_absent.ensures ∙ c.if-not-has_absent.false in
    let w : list_all is_present ls ≡ false = lacks_some ls some in
    rw (← c.self.view_is, c.if-not-has_absent.false, w) refl
