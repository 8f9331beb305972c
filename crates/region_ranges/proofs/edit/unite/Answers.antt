use Rattle.std.proofs.Common.{arith}
use Rattle.region_ranges.proofs.Edits.{met_is, unmet}
use Rattle.region_ranges.proofs.edit.unite.Goals as goal

pub returns-then-first-last-clause-sorted : goal.returns-then-first-last-clause-sorted
returns-then-first-last-clause-sorted c =
    let p = rw c.deref.ensures.value at c.ending_before-first.ensures.point in
    let q = rw c.deref-2.ensures.value at c.starting_by-last.ensures.point in
    let bound = rw c.deref-2.ensures.value at c.starting_by-last.ensures.bound in
    let start = rw c.deref-then-first-last.ensures.value at c.span-met.ensures.start in
    let end = rw c.deref-then-first-last.ensures.value at c.span-met.ensures.end in
    (met_is c.args.r _ _ _ _ _ c.requires.sorted c.requires.some c.if-first-last.true bound start end _ p q (rw (c.min.ensures, c.max.ensures) at c.put_one.ensures.items)).0

pub returns-then-first-last-clause-places : goal.returns-then-first-last-clause-places
returns-then-first-last-clause-places c =
    let p = rw c.deref.ensures.value at c.ending_before-first.ensures.point in
    let q = rw c.deref-2.ensures.value at c.starting_by-last.ensures.point in
    let bound = rw c.deref-2.ensures.value at c.starting_by-last.ensures.bound in
    let start = rw c.deref-then-first-last.ensures.value at c.span-met.ensures.start in
    let end = rw c.deref-then-first-last.ensures.value at c.span-met.ensures.end in
    (met_is c.args.r _ _ _ _ _ c.requires.sorted c.requires.some c.if-first-last.true bound start end _ p q (rw (c.min.ensures, c.max.ensures) at c.put_one.ensures.items)).1

pub returns-clause-sorted : goal.returns-clause-sorted
returns-clause-sorted c =
    let p = rw c.deref.ensures.value at c.ending_before-first.ensures.point in
    let q = rw c.deref-2.ensures.value at c.starting_by-last.ensures.point in
    let bound = rw c.deref.ensures.value at c.ending_before-first.ensures.bound in
    rw c.in-Ok.ensures.items (unmet c.args.r c.args.r 0 _ _ _ c.requires.sorted (omega arith) c.requires.some (omega (arith, c.if-first-last.false)) bound p q).0

pub returns-clause-places : goal.returns-clause-places
returns-clause-places c =
    let p = rw c.deref.ensures.value at c.ending_before-first.ensures.point in
    let q = rw c.deref-2.ensures.value at c.starting_by-last.ensures.point in
    let bound = rw c.deref.ensures.value at c.ending_before-first.ensures.bound in
    rw c.in-Ok.ensures.items (unmet c.args.r c.args.r 0 _ _ _ c.requires.sorted (omega arith) c.requires.some (omega (arith, c.if-first-last.false)) bound p q).1
