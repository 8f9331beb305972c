use Rattle.region_ranges.specs.Keys.{tag_of as key_tag}
use Rattle.cache_table.proofs.Finds.{not_again}
use Rattle.cache_table.proofs.cache.SharedCache.enter_known.Goals as goal

pub returns-in-None-clause-new : goal.returns-in-None-clause-new
returns-in-None-clause-new g c = not_again (key_tag c.args.want.now.key) c.args.policy.now c.leave.new.self c.in-Some.region (λ s ne at. ne (c.requires.policy.good.keys s c.in-Some.region (key_tag c.args.want.now.key) at c.in-Some.ensures.some)) c.leave.ensures.tags
