use Rattle.std.proofs.Common.{arith, ◌≡◌, ◌∙◌, sym, ap, suc, take, drop, Some}
use Rattle.region_ranges.specs.Keys.{tag_of as key_tag}
use Rattle.freq_lists.specs.Lists.{head}
use Rattle.cache_policy.specs.Policy.{PolicyView, leave}
use Rattle.cache_table.proofs.Chosen.{front_near, passed_more, found_more, found_take, scanned_on}
use Rattle.cache_table.proofs.cache.SharedCache.choose_free.Goals as goal

pub examine-requires-clause-place : goal.examine-requires-clause-place
examine-requires-clause-place g c = let n = front_near c.args.self.now.about c.loop-region.policy c.in-Some.region c.loop-region.invariant.5 (sym c.free_front.ensures ∙ c.in-Some.is) in omega arith

pub loop-region-preserved : goal.loop-region-preserved
loop-region-preserved g c =
    let i = c.loop-region.invariant in let at = sym c.free_front.ensures ∙ c.in-Some.is in let e = c.examine.ensures in let r = c.in-Some.region in let none = c.in_default-examine.ensures.none in
    let n = i.6.0 in
    let p = c.args.policy.now in
    let front : head (drop n p.free) ≡ Some r = sym (ap (λ (z : PolicyView). head z.free) i.6.1) ∙ at in (
      e.id.0 ∙ i.0,
      e.id.1 ∙ i.1,
      none.0,
      scanned_on c.args.self.now.about c.args.seat.now.me.0 c.loop-region.seat.me.0 c.examine.new.seat.me.0 i.3 e.scanned,
      e.hold,
      record { good = c.lesson.ensures.good; regions = c.leave.ensures.count ∙ c.map.ensures.count ∙ i.5.regions },
      (
        suc n,
        passed_more c.free_region_leaves.ensures p c.loop-region.policy c.leave.new.self n r (key_tag c.args.want.now.key) c.args.now i.5.good i.6.1 at (c.leave.ensures.policy ∙ ap (leave r) c.map.ensures.policy),
        found_take n r p.free c.examine.new.seat.me.0.found_held front (found_more (take n p.free) c.loop-region.seat.me.0.found_held c.examine.new.seat.me.0.found_held r e.scanned.found i.6.2 none.1),
      ),
    )
