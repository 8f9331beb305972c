use Rattle.region_ranges.specs.Keys.{tag_of as key_tag}
use Rattle.cache_table.proofs.Finds.{not_again, none_at}
use Rattle.cache_table.proofs.choice.map_chosen.Goals as goal

pub map-requires-in-Mapped-clause-new : goal.map-requires-in-Mapped-clause-new
map-requires-in-Mapped-clause-new c = not_again (key_tag c.args.key) c.args.policy.now c.unmap.new.self c.args.region (λ s ne. none_at (key_tag c.args.key) c.args.policy.now s c.requires.new) c.unmap.ensures.tags
