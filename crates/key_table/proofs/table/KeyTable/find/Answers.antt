use Rattle.std.proofs.Common.{◌∙◌, sym}
use Rattle.key_table.proofs.Entries.{read}
use Rattle.key_table.proofs.Calls.{IsEnd, found, not_found}
use Rattle.key_table.proofs.table.KeyTable.find.Goals as goal

pub returns-in_default : goal.returns-in_default
returns-in_default c =
    let xs = c.self.inside.slots.items in
    let k = c.self.invariant in
    let end : IsEnd c.args.key c.probe-place.result xs = record { bound = rw c.deref.ensures.value at c.probe-place.ensures.bound; same = rw c.deref.ensures.value at c.probe-place.ensures.key; before = rw c.deref.ensures.value at c.probe-place.ensures.before } in
    let none = read c.probe-place.result c.index.result.now xs end.bound c.index.ensures ∙ c.in_default.is in
    rw (← c.self.view_is) (sym (not_found c.args.key c.probe-place.result xs k.apart k.reached end none))

pub returns : goal.returns
returns c =
    let xs = c.self.inside.slots.items in
    let k = c.self.invariant in
    let end : IsEnd c.args.key c.probe-place.result xs = record { bound = rw c.deref.ensures.value at c.probe-place.ensures.bound; same = rw c.deref.ensures.value at c.probe-place.ensures.key; before = rw c.deref.ensures.value at c.probe-place.ensures.before } in
    let at = read c.probe-place.result c.index.result.now xs end.bound c.index.ensures ∙ c.in-Some.is in
    rw (← c.self.view_is) (sym (found c.args.key c.probe-place.result xs k.apart k.reached end c.in-Some.entry at))
