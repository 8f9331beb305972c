use Rattle.std.proofs.Common.{arith, ◌≡◌, true, false}
use Rattle.std.specs.Prelude.{nat_lt}
use Rattle.std.proofs.lemmas.Bool.Decides.{nat_tests}
use Rattle.region_ranges.proofs.Edits.{cut_is, uncut}
use Rattle.region_ranges.proofs.edit.subtract.Goals as goal

pub returns-then-last-first-clause-places : goal.returns-then-last-first-clause-places
returns-then-last-first-clause-places c i =
    let p = rw c.deref.ensures.value at c.ending_by-first.ensures.point in
    let q = rw c.deref-2.ensures.value at c.starting_before-last.ensures.point in
    let bound = rw c.deref.ensures.value at c.ending_by-first.ensures.bound in
    uncut c.args.r c.args.r 0 _ _ _ i c.requires.sorted c.requires.some c.if-last-first.true bound p q

pub returns-then-right-clause-sorted : goal.returns-then-right-clause-sorted
returns-then-right-clause-sorted c =
    let p = rw c.deref.ensures.value at c.ending_by-first.ensures.point in
    let q = rw c.deref-2.ensures.value at c.starting_before-last.ensures.point in
    let bound = rw c.deref-2.ensures.value at c.starting_before-last.ensures.bound in
    let start = rw c.deref-3.ensures.value at c.span-met.ensures.start in
    let end = rw c.deref-3.ensures.value at c.span-met.ensures.end in
    let left : nat_lt c.span-met.result.start c.args.r.start ≡ true = grind (arith, nat_tests, c.if-left.true) in
    let right : nat_lt c.args.r.end c.span-met.result.end ≡ true = grind (arith, nat_tests, c.if-right.true) in
    (cut_is c.args.r _ _ _ _ _ c.requires.sorted c.requires.some (omega (arith, c.if-last-first.false)) bound start end _ p q (rw (left, right) c.put_two.ensures.items)).0

pub returns-then-right-clause-places : goal.returns-then-right-clause-places
returns-then-right-clause-places c =
    let p = rw c.deref.ensures.value at c.ending_by-first.ensures.point in
    let q = rw c.deref-2.ensures.value at c.starting_before-last.ensures.point in
    let bound = rw c.deref-2.ensures.value at c.starting_before-last.ensures.bound in
    let start = rw c.deref-3.ensures.value at c.span-met.ensures.start in
    let end = rw c.deref-3.ensures.value at c.span-met.ensures.end in
    let left : nat_lt c.span-met.result.start c.args.r.start ≡ true = grind (arith, nat_tests, c.if-left.true) in
    let right : nat_lt c.args.r.end c.span-met.result.end ≡ true = grind (arith, nat_tests, c.if-right.true) in
    (cut_is c.args.r _ _ _ _ _ c.requires.sorted c.requires.some (omega (arith, c.if-last-first.false)) bound start end _ p q (rw (left, right) c.put_two.ensures.items)).1

pub returns-then-left-clause-sorted : goal.returns-then-left-clause-sorted
returns-then-left-clause-sorted c =
    let p = rw c.deref.ensures.value at c.ending_by-first.ensures.point in
    let q = rw c.deref-2.ensures.value at c.starting_before-last.ensures.point in
    let bound = rw c.deref-2.ensures.value at c.starting_before-last.ensures.bound in
    let start = rw c.deref-3.ensures.value at c.span-met.ensures.start in
    let end = rw c.deref-3.ensures.value at c.span-met.ensures.end in
    let left : nat_lt c.span-met.result.start c.args.r.start ≡ true = grind (arith, nat_tests, c.if-left.true) in
    let right : nat_lt c.args.r.end c.span-met.result.end ≡ false = grind (arith, nat_tests, c.if-right.false) in
    (cut_is c.args.r _ _ _ _ _ c.requires.sorted c.requires.some (omega (arith, c.if-last-first.false)) bound start end _ p q (rw (left, right) c.put_one.ensures.items)).0

pub returns-then-left-clause-places : goal.returns-then-left-clause-places
returns-then-left-clause-places c =
    let p = rw c.deref.ensures.value at c.ending_by-first.ensures.point in
    let q = rw c.deref-2.ensures.value at c.starting_before-last.ensures.point in
    let bound = rw c.deref-2.ensures.value at c.starting_before-last.ensures.bound in
    let start = rw c.deref-3.ensures.value at c.span-met.ensures.start in
    let end = rw c.deref-3.ensures.value at c.span-met.ensures.end in
    let left : nat_lt c.span-met.result.start c.args.r.start ≡ true = grind (arith, nat_tests, c.if-left.true) in
    let right : nat_lt c.args.r.end c.span-met.result.end ≡ false = grind (arith, nat_tests, c.if-right.false) in
    (cut_is c.args.r _ _ _ _ _ c.requires.sorted c.requires.some (omega (arith, c.if-last-first.false)) bound start end _ p q (rw (left, right) c.put_one.ensures.items)).1

pub returns-then-right-2-clause-sorted : goal.returns-then-right-2-clause-sorted
returns-then-right-2-clause-sorted c =
    let p = rw c.deref.ensures.value at c.ending_by-first.ensures.point in
    let q = rw c.deref-2.ensures.value at c.starting_before-last.ensures.point in
    let bound = rw c.deref-2.ensures.value at c.starting_before-last.ensures.bound in
    let start = rw c.deref-3.ensures.value at c.span-met.ensures.start in
    let end = rw c.deref-3.ensures.value at c.span-met.ensures.end in
    let left : nat_lt c.span-met.result.start c.args.r.start ≡ false = grind (arith, nat_tests, c.if-left.false) in
    let right : nat_lt c.args.r.end c.span-met.result.end ≡ true = grind (arith, nat_tests, c.if-right-2.true) in
    (cut_is c.args.r _ _ _ _ _ c.requires.sorted c.requires.some (omega (arith, c.if-last-first.false)) bound start end _ p q (rw (left, right) c.put_one-then-right-2.ensures.items)).0

pub returns-then-right-2-clause-places : goal.returns-then-right-2-clause-places
returns-then-right-2-clause-places c =
    let p = rw c.deref.ensures.value at c.ending_by-first.ensures.point in
    let q = rw c.deref-2.ensures.value at c.starting_before-last.ensures.point in
    let bound = rw c.deref-2.ensures.value at c.starting_before-last.ensures.bound in
    let start = rw c.deref-3.ensures.value at c.span-met.ensures.start in
    let end = rw c.deref-3.ensures.value at c.span-met.ensures.end in
    let left : nat_lt c.span-met.result.start c.args.r.start ≡ false = grind (arith, nat_tests, c.if-left.false) in
    let right : nat_lt c.args.r.end c.span-met.result.end ≡ true = grind (arith, nat_tests, c.if-right-2.true) in
    (cut_is c.args.r _ _ _ _ _ c.requires.sorted c.requires.some (omega (arith, c.if-last-first.false)) bound start end _ p q (rw (left, right) c.put_one-then-right-2.ensures.items)).1

pub returns-clause-sorted : goal.returns-clause-sorted
returns-clause-sorted c =
    let p = rw c.deref.ensures.value at c.ending_by-first.ensures.point in
    let q = rw c.deref-2.ensures.value at c.starting_before-last.ensures.point in
    let bound = rw c.deref-2.ensures.value at c.starting_before-last.ensures.bound in
    let start = rw c.deref-3.ensures.value at c.span-met.ensures.start in
    let end = rw c.deref-3.ensures.value at c.span-met.ensures.end in
    let left : nat_lt c.span-met.result.start c.args.r.start ≡ false = grind (arith, nat_tests, c.if-left.false) in
    let right : nat_lt c.args.r.end c.span-met.result.end ≡ false = grind (arith, nat_tests, c.if-right-2.false) in
    (cut_is c.args.r _ _ _ _ _ c.requires.sorted c.requires.some (omega (arith, c.if-last-first.false)) bound start end _ p q (rw (left, right) c.take_out.ensures.items)).0

pub returns-clause-places : goal.returns-clause-places
returns-clause-places c =
    let p = rw c.deref.ensures.value at c.ending_by-first.ensures.point in
    let q = rw c.deref-2.ensures.value at c.starting_before-last.ensures.point in
    let bound = rw c.deref-2.ensures.value at c.starting_before-last.ensures.bound in
    let start = rw c.deref-3.ensures.value at c.span-met.ensures.start in
    let end = rw c.deref-3.ensures.value at c.span-met.ensures.end in
    let left : nat_lt c.span-met.result.start c.args.r.start ≡ false = grind (arith, nat_tests, c.if-left.false) in
    let right : nat_lt c.args.r.end c.span-met.result.end ≡ false = grind (arith, nat_tests, c.if-right-2.false) in
    (cut_is c.args.r _ _ _ _ _ c.requires.sorted c.requires.some (omega (arith, c.if-last-first.false)) bound start end _ p q (rw (left, right) c.take_out.ensures.items)).1
