use Rattle.std.proofs.Common.{refl}
use Rattle.std.proofs.lemmas.Option.{slice_get_read}
use Rattle.freq_lists.proofs.Shown.{list_is, list_range}
use Rattle.freq_lists.proofs.lists.FreqLists.list_of.Goals as goal

pub returns-clause-list : goal.returns-clause-list
returns-clause-list c =
    let f = c.self.inside in
    let h = rw (← c.self.view_is) at c.requires in
    rw (← c.self.view_is) (list_is f.nodes.items f.ends.items _ c.self.invariant c.args.node c.index.result.now h (slice_get_read f.nodes.items _ c.args.node c.index.result.now refl h c.index.ensures))

pub returns-clause-range : goal.returns-clause-range
returns-clause-range c =
    let f = c.self.inside in
    let h = rw (← c.self.view_is) at c.requires in
    rw (← c.self.view_is) (list_range f.nodes.items f.ends.items _ c.self.invariant c.args.node c.index.result.now h (slice_get_read f.nodes.items _ c.args.node c.index.result.now refl h c.index.ensures))
