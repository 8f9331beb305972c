use Rattle.std.proofs.Common.{arith, ◌≡◌, ◌<◌, ◌∙◌, ℕ, inl, inr, refl, length, set, Some, None}
use Rattle.std.proofs.lemmas.Bool.{cases_Bool}
use Rattle.std.proofs.lemmas.Nat.{mod_below}
use Rattle.key_table.specs.Slots.{after, first_place, entry_at, is_over}
use Rattle.key_table.proofs.Rounds.{after_less}
use Rattle.key_table.proofs.Entries.{free_place, read, within_some}
use Rattle.key_table.proofs.Gaps.{begun, stays, moves, done, on}
use Rattle.key_table.proofs.gap.take_out.Goals as goal

pub loop-passed-init : goal.loop-passed-init
loop-passed-init c =
    let xs = c.args.slots.now.items in
    let size = c.len-size.result in
    let count : length xs ≡ size = omega (arith, c.len-size.ensures, c.args.slots.now.ok.0) in
    let f = free_place xs c.requires.room in
    let place_in : c.args.place < size = omega (arith, within_some c.args.place xs c.requires.entry, count) in
    let some : 0 < size = omega (arith, place_in) in
    (f.0, begun size some (λ key. mod_below _ size some) xs c.args.place f.0 count c.requires.apart c.requires.reached c.requires.entry place_in (omega (arith, f.1, count)) f.2, omega arith)

pub returns-in_default-clause-reached : goal.returns-in_default-clause-reached
returns-in_default-clause-reached c =
    let l = c.loop-passed in
    let size = c.len-size.result in
    let is = l.invariant.1 in
    let some : 0 < size = omega (arith, is.at_in) in
    let next : c.after-at.result < length l.slots.items = rw (c.after-at.ensures, is.count) (after_less size l.at is.at_in) in
    let none = read c.after-at.result c.index.result.now l.slots.items next c.index.ensures ∙ c.in_default.is in
    let here : entry_at l.slots.items (after size l.at) ≡ None = rw c.after-at.ensures at none in
    done size some (λ key. mod_below _ size some) _ l.slots.items l.invariant.0 l.gap l.at is here

pub loop-passed-preserved : goal.loop-passed-preserved
loop-passed-preserved c =
    let l = c.loop-passed in
    let size = c.len-size.result in
    let cur = l.slots.items in
    let e = c.in-Some.entry in
    let f = l.invariant.0 in
    let is = l.invariant.1 in
    let some : 0 < size = omega (arith, is.at_in) in
    let home_in : (key : ℕ) → first_place key size < size = λ key. mod_below _ size some in
    let next : c.after-at.result < length cur = rw (c.after-at.ensures, is.count) (after_less size l.at is.at_in) in
    let there = read c.after-at.result c.index.result.now cur next c.index.ensures ∙ c.in-Some.is in
    let here : entry_at cur (after size l.at) ≡ Some e = rw c.after-at.ensures at there in
    let further = on size some home_in _ cur f l.gap l.at is e here in
    elim (cases_Bool (is_over size l.gap (after size l.at) e)) [
      | inl t ↦
          let gap : c.move_up-gap.result ≡ after size l.at = c.move_up-gap.ensures.gap ∙ rw (is.count, c.after-at.ensures, t) refl in
          let slots : c.move_up-gap.new.slots.items ≡ set (set cur l.gap (Some e)) (after size l.at) None = c.move_up-gap.ensures.slots ∙ rw (is.count, c.after-at.ensures, t) refl in
          rw (gap, slots, c.after-at.ensures) (f, moves size some home_in _ cur f l.gap l.at is e here t, omega (arith, further, l.invariant.2))
      | inr t ↦
          let gap : c.move_up-gap.result ≡ l.gap = c.move_up-gap.ensures.gap ∙ rw (is.count, c.after-at.ensures, t) refl in
          let slots : c.move_up-gap.new.slots.items ≡ cur = c.move_up-gap.ensures.slots ∙ rw (is.count, c.after-at.ensures, t) refl in
          rw (gap, slots, c.after-at.ensures) (f, stays size some home_in _ cur f l.gap l.at is e here t, omega (arith, further, l.invariant.2))
    ]
