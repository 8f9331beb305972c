use Rattle.std.proofs.Common.{arith, ◌∙◌}
use Rattle.key_table.proofs.Calls.{IsEnd, ends_at, remove_regions, remove_len, some_is, some_region}
use Rattle.key_table.proofs.table.KeyTable.remove.Goals as goal

pub take_out-requires-clause-entry : goal.take_out-requires-clause-entry
take_out-requires-clause-entry c =
    let xs = c.self.inside.slots.items in
    let k = c.self.invariant in
    let end : IsEnd c.args.key c.probe-place.result xs = record { bound = rw c.deref.ensures.value at c.probe-place.ensures.bound; same = rw c.deref.ensures.value at c.probe-place.ensures.key; before = rw c.deref.ensures.value at c.probe-place.ensures.before } in
    let is = rw (← c.self.view_is) at c.requires in
    let r = some_region _ is in
    ends_at c.args.key c.probe-place.result xs k.apart k.reached end r.0 r.1

pub invariant_of-self : goal.invariant_of-self
invariant_of-self c =
    let xs = c.self.inside.slots.items in
    let k = c.self.invariant in
    let end : IsEnd c.args.key c.probe-place.result xs = record { bound = rw c.deref.ensures.value at c.probe-place.ensures.bound; same = rw c.deref.ensures.value at c.probe-place.ensures.key; before = rw c.deref.ensures.value at c.probe-place.ensures.before } in
    let is = rw (← c.self.view_is) at c.requires in
    let r = some_region _ is in
    let here = some_is _ (ends_at c.args.key c.probe-place.result xs k.apart k.reached end r.0 r.1) in
    let less = remove_len c.args.key c.probe-place.result xs k.apart k.reached end here.0 here.1 in
    record {
      size = rw c.take_out.ensures.count k.size;
      some = rw c.take_out.ensures.count k.some;
      apart = c.take_out.ensures.apart;
      reached = c.take_out.ensures.reached;
      room = omega (arith, k.room, c.take_out.ensures.len, less);
      few = k.few;
    }

pub returns-clause-regions : goal.returns-clause-regions
returns-clause-regions c j =
    let xs = c.self.inside.slots.items in
    let k = c.self.invariant in
    let end : IsEnd c.args.key c.probe-place.result xs = record { bound = rw c.deref.ensures.value at c.probe-place.ensures.bound; same = rw c.deref.ensures.value at c.probe-place.ensures.key; before = rw c.deref.ensures.value at c.probe-place.ensures.before } in
    let is = rw (← c.self.view_is) at c.requires in
    let r = some_region _ is in
    let here = some_is _ (ends_at c.args.key c.probe-place.result xs k.apart k.reached end r.0 r.1) in
    rw (← c.self.view_is) (c.take_out.ensures.regions j ∙ remove_regions c.args.key c.probe-place.result xs k.apart k.reached end here.0 here.1 j)

pub returns-clause-len : goal.returns-clause-len
returns-clause-len c =
    let xs = c.self.inside.slots.items in
    let k = c.self.invariant in
    let end : IsEnd c.args.key c.probe-place.result xs = record { bound = rw c.deref.ensures.value at c.probe-place.ensures.bound; same = rw c.deref.ensures.value at c.probe-place.ensures.key; before = rw c.deref.ensures.value at c.probe-place.ensures.before } in
    let is = rw (← c.self.view_is) at c.requires in
    let r = some_region _ is in
    let here = some_is _ (ends_at c.args.key c.probe-place.result xs k.apart k.reached end r.0 r.1) in
    rw (← c.self.view_is) (omega (arith, c.take_out.ensures.len, remove_len c.args.key c.probe-place.result xs k.apart k.reached end here.0 here.1))
