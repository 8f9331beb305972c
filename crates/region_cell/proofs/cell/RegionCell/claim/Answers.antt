use Rattle.std.proofs.Common.{arith, ◌∙◌, ap, ℕ, inl, inr}
use Rattle.region_ranges.specs.Ranges.{aligned}
use Rattle.region_cell.proofs.Kept.{kept_claim, kept_spare, by_answer}
use Rattle.region_cell.proofs.cell.RegionCell.claim.Goals as goal

pub overflow_cast-sub : goal.overflow_cast-sub
overflow_cast-sub g c = let r = rw (← c.self.view_is) at c.requires in let e = c.len-len.ensures in omega (arith, r)

pub invariant_of-self : goal.invariant_of-self
invariant_of-self g c =
    let i = c.self.invariant in
    let r = rw (← c.self.view_is) at c.requires in
    let w = c.wait_for_range.ensures in
    let range = c.aligned-range.ensures.value ∙ ap (λ (n : ℕ). aligned c.args.sub.start c.self.inside.range n) c.len-len.ensures in
    elim (by_answer c.wait_for_range.result c.wait_for_range.new.self _ _ w.ok w.err) [
      | inl e ↦ rw (e, range) (i.0, i.1, i.2, kept_spare _ _ _ _ (kept_claim _ _ _ i.3 c.args.sub c.claim_places.ensures r))
      | inr e ↦ rw e i
    ]
