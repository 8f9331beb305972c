use Rattle.std.proofs.Common.{arith, ◌≡◌, ◌<◌, ◌∙◌, ap, List, refl, length, Some, None}
use Rattle.std.specs.Prelude.{slice_get}
use Rattle.std.proofs.lemmas.List.{length-set}
use Rattle.std.proofs.lemmas.Option.{slice_get_read}
use Rattle.freq_lists.specs.declared.links.Node.{Node}
use Rattle.freq_lists.specs.declared.links.Ends.{Ends}
use Rattle.freq_lists.specs.Lists.{times}
use Rattle.freq_lists.specs.Links.{walked, with_last}
use Rattle.freq_lists.proofs.Counts.{length_push}
use Rattle.freq_lists.proofs.Linked.{length_next, length_first}
use Rattle.freq_lists.proofs.Walks.{seen, linked_seen}
use Rattle.freq_lists.proofs.Shown.{last_is, last_range}
use Rattle.freq_lists.proofs.Calls.{pushed}
use Rattle.freq_lists.proofs.lists.FreqLists.push_back.Goals as goal

pub set_behind-requires-clause-node : goal.set_behind-requires-clause-node
set_behind-requires-clause-node c =
    let f = c.self.inside in
    let ls = walked f.nodes.items f.ends.items in
    let within : c.args.list < length ls = rw (← c.self.view_is) at c.requires.list in
    let e = c.index.result.now in
    let at : slice_get f.ends.items c.args.list ≡ Some e = slice_get_read f.ends.items _ c.args.list e refl (omega (arith, within, c.self.invariant.count)) c.index.ensures in
    let new : Node = record { previous = e.last; next = None; list = Some c.args.list } in
    rw (length-set f.nodes.items c.args.node new, (last_is f.nodes.items f.ends.items ls c.self.invariant c.args.list e within at).1) (last_range f.nodes.items f.ends.items ls c.self.invariant c.args.list)

pub set_before-requires-clause-list : goal.set_before-requires-clause-list
set_before-requires-clause-list c =
    let f = c.self.inside in
    let ls = walked f.nodes.items f.ends.items in
    let within : c.args.list < length ls = rw (← c.self.view_is) at c.requires.list in
    rw c.set_behind.ensures.ends (omega (arith, within, c.self.invariant.count, length_first c.index.result.now.last (Some c.args.node) c.args.list f.ends.items))

pub invariant_of-self : goal.invariant_of-self
invariant_of-self c =
    let f = c.self.inside in
    let ls = walked f.nodes.items f.ends.items in
    let within : c.args.list < length ls = rw (← c.self.view_is) at c.requires.list in
    let e = c.index.result.now in
    let at : slice_get f.ends.items c.args.list ≡ Some e = slice_get_read f.ends.items _ c.args.list e refl (omega (arith, within, c.self.invariant.count)) c.index.ensures in
    let h : c.args.node < length f.nodes.items = rw (← c.self.view_is) at c.requires.node in
    let free : times c.args.node ls ≡ 0 = rw (← c.self.view_is) at c.requires.free in
    let nodes = c.set_before.ensures.nodes ∙ c.set_behind.ensures.nodes in
    let ends = c.set_before.ensures.ends ∙ ap (λ (es : List Ends). with_last None (Some c.args.node) c.args.list es) c.set_behind.ensures.ends in
    let linked = pushed f.nodes.items f.ends.items ls c.self.invariant c.args.list c.args.node h e within at free c.set_before.new.nodes.items c.set_before.new.ends.items nodes ends in
    linked_seen _ _ _ linked

pub returns-clause-lists : goal.returns-clause-lists
returns-clause-lists c =
    let f = c.self.inside in
    let ls = walked f.nodes.items f.ends.items in
    let within : c.args.list < length ls = rw (← c.self.view_is) at c.requires.list in
    let e = c.index.result.now in
    let at : slice_get f.ends.items c.args.list ≡ Some e = slice_get_read f.ends.items _ c.args.list e refl (omega (arith, within, c.self.invariant.count)) c.index.ensures in
    let h : c.args.node < length f.nodes.items = rw (← c.self.view_is) at c.requires.node in
    let free : times c.args.node ls ≡ 0 = rw (← c.self.view_is) at c.requires.free in
    let nodes = c.set_before.ensures.nodes ∙ c.set_behind.ensures.nodes in
    let ends = c.set_before.ensures.ends ∙ ap (λ (es : List Ends). with_last None (Some c.args.node) c.args.list es) c.set_behind.ensures.ends in
    let linked = pushed f.nodes.items f.ends.items ls c.self.invariant c.args.list c.args.node h e within at free c.set_before.new.nodes.items c.set_before.new.ends.items nodes ends in
    let new : Node = record { previous = e.last; next = None; list = Some c.args.list } in
    let count : length c.set_before.new.nodes.items ≡ length f.nodes.items = ap (λ (ns : List Node). length ns) nodes ∙ length_next e.last (Some c.args.node) _ ∙ length-set f.nodes.items c.args.node new in
    rw (← c.self.view_is) (λ i. record { nodes = count i; lists = seen _ _ _ linked i })

pub returns-clause-count : goal.returns-clause-count
returns-clause-count c =
    let f = c.self.inside in
    let ls = walked f.nodes.items f.ends.items in
    let within : c.args.list < length ls = rw (← c.self.view_is) at c.requires.list in
    let e = c.index.result.now in
    let at : slice_get f.ends.items c.args.list ≡ Some e = slice_get_read f.ends.items _ c.args.list e refl (omega (arith, within, c.self.invariant.count)) c.index.ensures in
    let h : c.args.node < length f.nodes.items = rw (← c.self.view_is) at c.requires.node in
    let free : times c.args.node ls ≡ 0 = rw (← c.self.view_is) at c.requires.free in
    let nodes = c.set_before.ensures.nodes ∙ c.set_behind.ensures.nodes in
    let ends = c.set_before.ensures.ends ∙ ap (λ (es : List Ends). with_last None (Some c.args.node) c.args.list es) c.set_behind.ensures.ends in
    let linked = pushed f.nodes.items f.ends.items ls c.self.invariant c.args.list c.args.node h e within at free c.set_before.new.nodes.items c.set_before.new.ends.items nodes ends in
    rw (seen _ _ _ linked, ← c.self.view_is) (length_push c.args.list c.args.node ls)
