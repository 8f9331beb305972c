use Rattle.std.proofs.Common.{arith, ◌≡◌, ◌<◌, ◌∙◌, sym, ap, ℕ, Bool, true, false, length, Option, None}
use Rattle.std.proofs.lemmas.List.{length-set}
use Rattle.cache_policy.specs.Policy.{PolicyView, tag_at}
use Rattle.cache_policy.specs.Policy.{is_of, regions_from, clear}
use Rattle.cache_policy.proofs.Clears.{region_goes, region_stays, leaving_all, cleared_tag, some_of, drop_end}
use Rattle.cache_policy.proofs.policy.Policy.clear.Goals as goal
use Rattle.cache_policy.proofs.policy.Policy.clear.Goals.{then-has_key_of, else-has_key_of}

pub has_key_of-requires : goal.has_key_of-requires
has_key_of-requires c =
    let f = c.self.inside in
    let len : length c.args.self.now.tags ≡ length f.tags.items = ap (λ (p : PolicyView). length p.tags) (sym c.self.view_is) in
    omega (arith, c.loop-region.invariant.1, len, f.tags.ok.0)

pub leave-requires : goal.leave-requires
leave-requires c = some_of c.args.manifest (tag_at c.loop-region.self c.loop-region.region) (sym c.has_key_of.ensures ∙ c.if-has_key_of.true)

pub loop-region-preserved : goal.loop-region-preserved
loop-region-preserved c =
    let f = c.self.inside in
    let old = c.loop-region.self in
    let i = c.loop-region.region in
    let test : Option ℕ → Bool = is_of c.args.manifest in
    let len : length c.args.self.now.tags ≡ length f.tags.items = ap (λ (p : PolicyView). length p.tags) (sym c.self.view_is) in
    let h : i < length old.tags = omega (arith, c.loop-region.invariant.1, len, f.tags.ok.0) in
    elim c.if-has_key_of.branch [
      | then-has_key_of w ↦
          let t : test (tag_at old i) ≡ true = sym c.has_key_of.ensures ∙ w.if-has_key_of.true in
          rw (w.self-is, w.leave.ensures.policy) (region_goes test old i h t ∙ c.loop-region.invariant.0, length-set old.tags i None ∙ c.loop-region.invariant.1)
      | else-has_key_of w ↦
          let t : test (tag_at old i) ≡ false = sym c.has_key_of.ensures ∙ w.if-has_key_of.false in
          rw (w.self-is, region_stays test old i h t) c.loop-region.invariant
    ]

pub returns-clause-policy : goal.returns-clause-policy
returns-clause-policy c =
    let f = c.self.inside in
    let len : length c.args.self.now.tags ≡ length f.tags.items = ap (λ (p : PolicyView). length p.tags) (sym c.self.view_is) in
    let end = drop_end c.loop-region.region c.loop-region.self.tags (omega (arith, c.loop-region.invariant.1, len, f.tags.ok.0)) in
    let done = rw end at c.loop-region.invariant.0 in
    done

pub returns-clause-tags : goal.returns-clause-tags
returns-clause-tags c j =
    let f = c.self.inside in
    let len : length c.args.self.now.tags ≡ length f.tags.items = ap (λ (p : PolicyView). length p.tags) (sym c.self.view_is) in
    let end = drop_end c.loop-region.region c.loop-region.self.tags (omega (arith, c.loop-region.invariant.1, len, f.tags.ok.0)) in
    let done : c.loop-region.self ≡ clear c.args.manifest c.args.self.now = rw end at c.loop-region.invariant.0 in
    ap (λ (p : PolicyView). tag_at p j) done ∙ cleared_tag c.args.manifest j c.args.self.now

pub returns-clause-leaving : goal.returns-clause-leaving
returns-clause-leaving c =
    let f = c.self.inside in
    let old = c.args.self.now in
    let len : length c.args.self.now.tags ≡ length f.tags.items = ap (λ (p : PolicyView). length p.tags) (sym c.self.view_is) in
    let end = drop_end c.loop-region.region c.loop-region.self.tags (omega (arith, c.loop-region.invariant.1, len, f.tags.ok.0)) in
    let done : c.loop-region.self ≡ clear c.args.manifest old = rw end at c.loop-region.invariant.0 in
    ap (λ (p : PolicyView). p.leaving) done ∙ leaving_all (regions_from 0 (is_of c.args.manifest) old.tags) old

pub returns-clause-count : goal.returns-clause-count
returns-clause-count c = c.loop-region.invariant.1
