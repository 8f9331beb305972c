use Rattle.std.proofs.Common.{◌<◌, length}
use Rattle.key_table.specs.Slots.{first_place}
use Rattle.key_table.proofs.Rounds.{after_less}
use Rattle.key_table.proofs.Entries.{read_some}
use Rattle.key_table.proofs.Walks.{passed_more, nth_more, not_all}
use Rattle.key_table.proofs.places.probe.Goals as goal

pub loop-passed-preserved : goal.loop-passed-preserved
loop-passed-preserved c =
    let slots = c.args.slots.now in
    let l = c.loop-passed in
    let first = first_place c.args.key (length slots) in
    let first_in : first < length slots = rw c.first_place-place.ensures.place at c.first_place-place.ensures.bound in
    let at = read_some l.place _ c.in-Some.entry slots l.invariant.0 c.in-Some.is in
    rw c.after-place.ensures (
      after_less (length slots) l.place l.invariant.0,
      passed_more c.args.key first slots first_in l.place l._passed c.in-Some.entry l.invariant.0 c.loop-passed-test.true l.invariant.1 l.invariant.2 at c.if-entry-key.false,
      nth_more c.args.key first slots first_in l.place l._passed l.invariant.0 c.loop-passed-test.true l.invariant.2,
    )

pub unreachable-requires : goal.unreachable-requires
unreachable-requires c =
    let slots = c.args.slots.now in
    let first = first_place c.args.key (length slots) in
    let first_in : first < length slots = rw c.first_place-place.ensures.place at c.first_place-place.ensures.bound in
    not_all c.args.key first slots first_in c.loop-passed._passed c.loop-passed-test.false c.loop-passed.invariant.1 c.requires
