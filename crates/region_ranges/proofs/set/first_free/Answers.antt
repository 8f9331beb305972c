use Rattle.std.proofs.Common.{sym}
use Rattle.std.proofs.lemmas.List.{drop_more, drop_all}
use Rattle.region_ranges.proofs.Points.{walked, ahead}
use Rattle.region_ranges.proofs.Walks.{found, found_last, some_found, none_found}
use Rattle.region_ranges.proofs.set.first_free.Goals as goal

pub returns-then-next-ranges-clause-some : goal.returns-then-next-ranges-clause-some
returns-then-next-ranges-clause-some c =
    let xs = c.args.ranges.now in
    let next = c.starting_by-next.result in
    let walk = walked xs c.args.within c.args.from c.max-at.result next c.end_of-start.result c.requires c.starting_by-next.ensures.bound c.max-at.ensures c.starting_by-next.ensures.point c.end_of-start.ensures.none c.end_of-start.ensures.some in
    let here = rw (drop_more xs next (record { start = 0; end = 0 }) c.if-next-ranges.true, sym c.max-place.ensures) at walk in
    let after = ahead xs c.args.within c.args.from c.max-at.result next c.end_of-start.result c.requires c.starting_by-next.ensures.bound c.max-at.ensures c.starting_by-next.ensures.point c.end_of-start.ensures.none c.end_of-start.ensures.some (record { start = 0; end = 0 }) c.if-next-ranges.true in
    some_found xs c.args.within c.args.from c.end_of-start.result c.max-place.result _ c.run.result (found _ _ _ _ _ _ _ here (rw (sym c.max-place.ensures) at after)) c.run.ensures.none c.run.ensures.some

pub returns-then-next-ranges-clause-none : goal.returns-then-next-ranges-clause-none
returns-then-next-ranges-clause-none c =
    let xs = c.args.ranges.now in
    let next = c.starting_by-next.result in
    let walk = walked xs c.args.within c.args.from c.max-at.result next c.end_of-start.result c.requires c.starting_by-next.ensures.bound c.max-at.ensures c.starting_by-next.ensures.point c.end_of-start.ensures.none c.end_of-start.ensures.some in
    none_found xs _ c.args.within c.args.from c.end_of-start.result c.max-place.result _ c.run.result (rw (sym c.max-place.ensures) at walk) c.run.ensures.some

pub returns-clause-some : goal.returns-clause-some
returns-clause-some c =
    let xs = c.args.ranges.now in
    let next = c.starting_by-next.result in
    let walk = walked xs c.args.within c.args.from c.max-at.result next c.end_of-start.result c.requires c.starting_by-next.ensures.bound c.max-at.ensures c.starting_by-next.ensures.point c.end_of-start.ensures.none c.end_of-start.ensures.some in
    let here = rw (drop_all next xs c.if-next-ranges.false, sym c.max-place.ensures) at walk in
    some_found xs c.args.within c.args.from c.end_of-start.result c.max-place.result c.args.within.end c.run-2.result (found_last _ c.args.within _ _ _ here) c.run-2.ensures.none c.run-2.ensures.some

pub returns-clause-none : goal.returns-clause-none
returns-clause-none c =
    let xs = c.args.ranges.now in
    let next = c.starting_by-next.result in
    let walk = walked xs c.args.within c.args.from c.max-at.result next c.end_of-start.result c.requires c.starting_by-next.ensures.bound c.max-at.ensures c.starting_by-next.ensures.point c.end_of-start.ensures.none c.end_of-start.ensures.some in
    none_found xs _ c.args.within c.args.from c.end_of-start.result c.max-place.result _ c.run-2.result (rw (sym c.max-place.ensures) at walk) c.run-2.ensures.some
