use Rattle.std.proofs.Common.{rules, arith, ◌∙◌, ap, ◌++◌, ◌∷◌, [], refl, length}
use Rattle.cache_policy.specs.Policy.{PolicyView}
use Rattle.cache_table.specs.Rule.{place, regions_in}
use Rattle.cache_table.proofs.Sums.{no_region}
use Rattle.cache_table.proofs.Settles.{leaving_times, leaving_near, settle_more, settle_shorter}
use Rattle.cache_table.proofs.cache.SharedCache.settle_unheld.Goals as goal

pub loop-at-init : goal.loop-at-init
loop-at-init g c = (omega arith, refl, refl, c.requires.turn, refl, c.requires.policy, ([], refl))

pub look-word-requires-clause-place : goal.look-word-requires-clause-place
look-word-requires-clause-place g c = let n = leaving_near c.args.self.now.about c.loop-at.policy c.loop-at.at c.leaving_at-region.result c.loop-at.invariant.5 (let l = c.leaving_len.ensures in let t = c.loop-at-test.true in omega arith) c.leaving_at-region.ensures in omega arith

pub look-word-requires-clause-other : goal.look-word-requires-clause-other
look-word-requires-clause-other g c = no_region c.loop-at.seat.me.0.turns (place c.leaving_at-region.result) (omega arith) (ap regions_in c.loop-at.invariant.3.turns)

pub settle-requires : goal.settle-requires
settle-requires g c = leaving_times c.loop-at.policy c.loop-at.at c.leaving_at-region.result (let l = c.leaving_len.ensures in let t = c.loop-at-test.true in omega arith) c.leaving_at-region.ensures

pub loop-at-smaller-then-word-eq0 : goal.loop-at-smaller-then-word-eq0
loop-at-smaller-then-word-eq0 g c = let i = c.loop-at.invariant in let l = c.leaving_len.ensures in let t = c.loop-at-test.true in
    rw c.settle.ensures.policy (omega (arith, settle_shorter c.loop-at.policy c.loop-at.at c.leaving_at-region.result i.5.good (omega arith) c.leaving_at-region.ensures))

pub loop-at-preserved-then-word-eq0 : goal.loop-at-preserved-then-word-eq0
loop-at-preserved-then-word-eq0 g c = let i = c.loop-at.invariant in let l = c.leaving_len.ensures in let t = c.loop-at-test.true in
    let k = settle_shorter c.loop-at.policy c.loop-at.at c.leaving_at-region.result i.5.good (omega arith) c.leaving_at-region.ensures in
    let e = ap (λ (p : PolicyView). length p.leaving) c.settle.ensures.policy in
    let n = ap (λ (p : PolicyView). length p.tags) c.settle.ensures.policy in (
      omega (arith, e, k),
      c.look-word.ensures.id.0 ∙ i.1,
      c.look-word.ensures.id.1 ∙ i.2,
      search rules,
      search rules,
      record { good = c.lesson.ensures.good; regions = n ∙ i.5.regions },
      (i.6.0 ++ c.leaving_at-region.result ∷ [], c.settle.ensures.policy ∙ settle_more i.6.0 c.leaving_at-region.result c.args.policy.now c.loop-at.policy i.6.1),
    )
