use Rattle.std.proofs.Common.{arith, ◌<◌, ◌∙◌, ℕ, sym, subst, length}
use Rattle.freq_lists.specs.Lists.{times_in}
use Rattle.cache_table.proofs.Settles.{leaving_times, leaving_near}
use Rattle.cache_table.proofs.Chosen.{found_place, scanned_on}
use Rattle.cache_table.proofs.cache.SharedCache.choose_leaving.Goals as goal

pub examine-requires-clause-place : goal.examine-requires-clause-place
examine-requires-clause-place g c =
    let lt : c.loop-at.at < length c.args.policy.now.leaving = (let l = c.leaving_len-at-end.ensures in let t = c.loop-at-test.true in omega arith) in
    let n = leaving_near c.args.self.now.about c.args.policy.now c.loop-at.at c.leaving_at-region.result c.requires.policy lt c.leaving_at-region.ensures in omega arith

pub returns-in-Some-clause-leaving : goal.returns-in-Some-clause-leaving
returns-in-Some-clause-leaving g c =
    let lt : c.loop-at.at < length c.args.policy.now.leaving = (let l = c.leaving_len-at-end.ensures in let t = c.loop-at-test.true in omega arith) in
    subst (λ (n : ℕ). 0 < times_in n c.args.policy.now.leaving) (sym c.in-Some.ensures.region) (leaving_times c.args.policy.now c.loop-at.at c.leaving_at-region.result lt c.leaving_at-region.ensures)

pub loop-at-preserved : goal.loop-at-preserved
loop-at-preserved g c =
    let i = c.loop-at.invariant in let e = c.examine.ensures in let none = c.in_default.ensures.none in
    let lt : c.loop-at.at < length c.args.policy.now.leaving = (let l = c.leaving_len-at-end.ensures in let t = c.loop-at-test.true in omega arith) in (
      e.id.0 ∙ i.0,
      e.id.1 ∙ i.1,
      none.0,
      scanned_on c.args.self.now.about c.args.seat.now.me.0 c.loop-at.seat.me.0 c.examine.new.seat.me.0 i.3 e.scanned,
      e.hold,
      found_place c.loop-at.at c.leaving_at-region.result c.args.policy.now.leaving c.loop-at.seat.me.0.found_held c.examine.new.seat.me.0.found_held lt c.leaving_at-region.ensures e.scanned.found i.5 none.1,
    )
