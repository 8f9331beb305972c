use Rattle.std.proofs.Common.{refl}
use Rattle.std.proofs.lemmas.Option.{slice_get_read}
use Rattle.freq_lists.proofs.Shown.{next_is_its}
use Rattle.freq_lists.proofs.lists.FreqLists.next.Goals as goal

pub returns : goal.returns
returns c =
    let f = c.self.inside in
    let some = rw (← c.self.view_is) at c.requires in
    let h = c.self.invariant.range c.args.node some in
    rw (← c.self.view_is) (next_is_its f.nodes.items f.ends.items _ c.self.invariant c.args.node c.index.result.now h (slice_get_read f.nodes.items _ c.args.node c.index.result.now refl h c.index.ensures) some)
