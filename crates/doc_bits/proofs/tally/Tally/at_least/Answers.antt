use Rattle.std.proofs.Common.{nat_le, length, map, replicate, true, false, get_or, sym, ap, ◌∙◌, arith}
use Rattle.std.proofs.lemmas.Bool.{le-leb, lt-leb}
use Rattle.doc_bits.specs.Planes.{number, digits_at}
use Rattle.doc_bits.proofs.Lists.{map_of_one}
use Rattle.doc_bits.proofs.PlaneLemmas.{length-counts_of, all_long, count_le, counts_compared}
use Rattle.doc_bits.proofs.tally.Tally.at_least.Goals as goal

pub compare-requires-clause-long : goal.compare-requires-clause-long
compare-requires-clause-long c =
    let held = ap (λ t. length t.counts) (sym c.self.view_is) ∙ length-counts_of _ _ in
    all_long c.self.inside.planes.items c.deref.result.now (length c.self.inside.carry) (length c.args.out.now) c.deref.ensures.value
    (c.requires ∙ held) c.self.invariant.each_long

pub compare-requires-clause-room : goal.compare-requires-clause-room
compare-requires-clause-room c i low =
    let held = ap (λ t. length t.counts) (sym c.self.view_is) ∙ length-counts_of (length c.self.inside.carry) c.self.inside.planes.items in
    let long = c.requires ∙ held in
    let few = count_le c.self.inside.added (length c.self.inside.carry) c.self.inside.planes.items i c.self.invariant (omega arith) in
    let same = ap (λ ps. number (digits_at ps i)) c.deref.ensures.value in
    let enough = c.planes_for.ensures.enough in
    omega arith

pub returns-then-m-from-clause-at_least : goal.returns-then-m-from-clause-at_least
returns-then-m-from-clause-at_least c =
    let counts = c.args.self.now.counts in
    let above = c.if-m-from.true in
    let from = c.from.ensures in
    c.clear.ensures ∙ ap (λ n. replicate n false) c.requires
    ∙ sym (map_of_one (λ count. nat_le c.args.m count) false counts (λ i low. lt-leb c.args.m (get_or counts i 0)
    (let few = c.self.invariant.counted.within i in let same = ap (λ t. get_or t.counts i 0) c.self.view_is in omega arith)))

pub returns-else-m-from-clause-at_least : goal.returns-else-m-from-clause-at_least
returns-else-m-from-clause-at_least c =
    let m = c.args.m in
    let len = length c.self.inside.carry in
    let held = ap (λ t. length t.counts) (sym c.self.view_is) ∙ length-counts_of len c.self.inside.planes.items in
    let long = c.requires ∙ held in
    counts_compared m len c.self.inside.planes.items c.compare.new.out (c.compare.ensures.length ∙ long)
    (λ i low. c.compare.ensures.at_least i (omega arith) ∙ ap (λ ps. nat_le m (number (digits_at ps i))) c.deref.ensures.value)
    ∙ ap (λ t. map (λ count. nat_le m count) t.counts) c.self.view_is

pub returns-else-m-from-clause-all : goal.returns-else-m-from-clause-all
returns-else-m-from-clause-all c zero =
    let counts = c.args.self.now.counts in
    returns-else-m-from-clause-at_least c
    ∙ map_of_one (λ count. nat_le c.args.m count) true counts (λ i low. le-leb c.args.m (get_or counts i 0) (omega arith))
    ∙ ap (λ n. replicate n true) (sym c.requires)
