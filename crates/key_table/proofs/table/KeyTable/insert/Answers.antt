use Rattle.std.proofs.Common.{arith, Some}
use Rattle.std.proofs.lemmas.List.{length-set}
use Rattle.key_table.proofs.Calls.{IsEnd, insert_apart, insert_reached, insert_regions, insert_len}
use Rattle.key_table.proofs.table.KeyTable.insert.Goals as goal

pub invariant_of-self : goal.invariant_of-self
invariant_of-self c =
    let xs = c.self.inside.slots.items in
    let k = c.self.invariant in
    let end : IsEnd c.args.key c.probe-place.result xs = record { bound = rw c.deref.ensures.value at c.probe-place.ensures.bound; same = rw c.deref.ensures.value at c.probe-place.ensures.key; before = rw c.deref.ensures.value at c.probe-place.ensures.before } in
    let new = rw (← c.self.view_is) at c.requires.new in
    let room = rw (← c.self.view_is) at c.requires.room in
    let count = length-set xs c.probe-place.result (Some (record { key = c.args.key; region = c.args.region })) in
    record {
      size = rw count k.size;
      some = rw count k.some;
      apart = insert_apart c.args.key c.probe-place.result xs k.apart k.reached end new c.args.region;
      reached = insert_reached c.args.key c.probe-place.result xs k.apart k.reached end new c.args.region;
      room = omega (arith, room, insert_len c.args.key c.probe-place.result xs k.apart k.reached end new c.args.region);
      few = k.few;
    }

pub returns-clause-regions : goal.returns-clause-regions
returns-clause-regions c j =
    let xs = c.self.inside.slots.items in
    let k = c.self.invariant in
    let end : IsEnd c.args.key c.probe-place.result xs = record { bound = rw c.deref.ensures.value at c.probe-place.ensures.bound; same = rw c.deref.ensures.value at c.probe-place.ensures.key; before = rw c.deref.ensures.value at c.probe-place.ensures.before } in
    let new = rw (← c.self.view_is) at c.requires.new in
    rw (← c.self.view_is) (insert_regions c.args.key c.probe-place.result xs k.apart k.reached end new c.args.region j)

pub returns-clause-len : goal.returns-clause-len
returns-clause-len c =
    let xs = c.self.inside.slots.items in
    let k = c.self.invariant in
    let end : IsEnd c.args.key c.probe-place.result xs = record { bound = rw c.deref.ensures.value at c.probe-place.ensures.bound; same = rw c.deref.ensures.value at c.probe-place.ensures.key; before = rw c.deref.ensures.value at c.probe-place.ensures.before } in
    let new = rw (← c.self.view_is) at c.requires.new in
    rw (← c.self.view_is) (insert_len c.args.key c.probe-place.result xs k.apart k.reached end new c.args.region)
