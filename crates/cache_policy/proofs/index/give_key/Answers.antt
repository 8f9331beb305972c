use Rattle.std.proofs.Common.{◌∙◌}
use Rattle.cache_policy.proofs.Keyed.{room, index_given}
use Rattle.cache_policy.proofs.index.give_key.Goals as goal

pub insert-requires-clause-new : goal.insert-requires-clause-new
insert-requires-clause-new c = c.requires.index.regions c.args.tag ∙ c.requires.new

pub insert-requires-clause-room : goal.insert-requires-clause-room
insert-requires-clause-room c = room c.args.keys.now c.args.keys.now c.args.tags.now.items c.args.region c.args.tag c.requires.index c.requires.region c.requires.free

pub returns-clause-index : goal.returns-clause-index
returns-clause-index c = index_given c.args.keys.now c.insert.new.self c.args.tags.now.items c.args.region c.args.tag c.requires.index c.requires.region c.requires.free c.requires.new c.insert.ensures.regions c.insert.ensures.len c.insert.ensures.most
