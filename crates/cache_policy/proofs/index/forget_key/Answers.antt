use Rattle.std.proofs.Common.{◌≡◌, ◌∙◌, Some}
use Rattle.cache_policy.proofs.Tags.{at, at_within, at_read}
use Rattle.cache_policy.proofs.Keyed.{index_forgotten, has_region}
use Rattle.cache_policy.proofs.index.forget_key.Goals as goal

pub remove-requires : goal.remove-requires
remove-requires c =
    let ts = c.args.tags.now.items in
    let h = at_within ts c.args.region c.requires.region in
    let here : at ts c.args.region ≡ Some c.in-Some.tag = at_read ts c.args.region c.index.result.now h c.index.ensures ∙ c.in-Some.is in
    has_region 0 c.args.region c.in-Some.tag ts c.args.keys.now c.requires.index here

pub returns-clause-index : goal.returns-clause-index
returns-clause-index c =
    let ts = c.args.tags.now.items in
    let h = at_within ts c.args.region c.requires.region in
    let here : at ts c.args.region ≡ Some c.in-Some.tag = at_read ts c.args.region c.index.result.now h c.index.ensures ∙ c.in-Some.is in
    index_forgotten c.args.keys.now c.remove.new.self ts c.args.region c.in-Some.tag c.requires.index h c.requires.apart here c.remove.ensures.regions c.remove.ensures.len c.remove.ensures.most
