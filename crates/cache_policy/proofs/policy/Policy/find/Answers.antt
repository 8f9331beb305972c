use Rattle.std.proofs.Common.{◌≡◌, ◌∙◌}
use Rattle.cache_policy.specs.Policy.{is_tag}
use Rattle.std.specs.List.{position_from}
use Rattle.region_ranges.specs.Keys.{tag_of}
use Rattle.cache_policy.proofs.Tags.{find_some, find_none}
use Rattle.cache_policy.proofs.policy.Policy.find.Goals as goal

pub returns-clause-some : goal.returns-clause-some
returns-clause-some c =
    let f = c.self.inside in
    let tag = tag_of c.args.key.now in
    let is : c.find.result ≡ position_from (is_tag tag) 0 f.tags.items = c.find.ensures ∙ rw c.pack.ensures.value (c.self.invariant.keys.regions tag) in
    rw (← c.self.view_is) (find_some tag f.tags.items c.find.result is)

pub returns-clause-none : goal.returns-clause-none
returns-clause-none c =
    let f = c.self.inside in
    let tag = tag_of c.args.key.now in
    let is : c.find.result ≡ position_from (is_tag tag) 0 f.tags.items = c.find.ensures ∙ rw c.pack.ensures.value (c.self.invariant.keys.regions tag) in
    rw (← c.self.view_is) (find_none tag f.tags.items c.find.result is)

pub returns-clause-region : goal.returns-clause-region
returns-clause-region c = rw (← c.self.view_is) (c.find.ensures ∙ rw c.pack.ensures.value (c.self.invariant.keys.regions (tag_of c.args.key.now)))
