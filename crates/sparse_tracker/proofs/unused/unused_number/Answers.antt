use Rattle.std.proofs.Common.{arith, ◌≡◌, ◌+◌, length}
use Rattle.std.specs.Prelude.{map}
use Rattle.std.proofs.lemmas.List.{length-map}
use Rattle.sparse_tracker.proofs.Counts.{below_all, least_is}
use Rattle.sparse_tracker.proofs.unused.unused_number.Goals as goal

pub returns-then-count_below-count : goal.returns-then-count_below-count
returns-then-count_below-count g c =
    let n = length c.args.items.now in
    let ns = map g.T.Numbered.number c.args.items.now in
    let size = length-map c.args.items.now g.T.Numbered.number in
    let most = below_all (n + 1) ns in
    let all = c.count_below.ensures in
    let whole = c.if-count_below-count.true in
    least_is n ns c.requires.differ (omega (arith, all, whole)) (omega (arith, most, size))

pub loop-low-init : goal.loop-low-init
loop-low-init g c =
    let n = length c.args.items.now in
    let ns = map g.T.Numbered.number c.args.items.now in
    let size = length-map c.args.items.now g.T.Numbered.number in
    let most = below_all (n + 1) ns in
    (omega arith, omega (arith, most, size), omega arith, omega arith)

pub returns : goal.returns
returns g c =
    let ns = map g.T.Numbered.number c.args.items.now in
    let kept = c.loop-low.invariant in
    let end = c.loop-low-test.false in
    least_is c.loop-low.low ns c.requires.differ kept.0 (let s : c.loop-low.high ≡ c.loop-low.low = omega (arith, kept.2, end) in rw s at kept.1)
