use Rattle.std.proofs.Common.{arith, ◌≡◌, ◌<◌, ◌∙◌, ap, List, refl, length, set, Some, None}
use Rattle.std.specs.Prelude.{slice_get}
use Rattle.std.proofs.lemmas.List.{length-set}
use Rattle.std.proofs.lemmas.Option.{slice_get_read}
use Rattle.freq_lists.specs.declared.links.Node.{Node}
use Rattle.freq_lists.specs.declared.links.Ends.{Ends}
use Rattle.freq_lists.specs.Lists.{times}
use Rattle.freq_lists.specs.Links.{walked, with_last, with_previous}
use Rattle.freq_lists.proofs.Counts.{length_unlink}
use Rattle.freq_lists.proofs.Linked.{length_next, length_previous, length_first}
use Rattle.freq_lists.proofs.Walks.{seen, linked_seen}
use Rattle.freq_lists.proofs.Shown.{in_list, has_list, ahead_range, behind_range}
use Rattle.freq_lists.proofs.Calls.{unlinked}
use Rattle.freq_lists.proofs.lists.FreqLists.unlink.Goals as goal

pub returns-in_default-clause-lists : goal.returns-in_default-clause-lists
returns-in_default-clause-lists c =
    let f = c.self.inside in
    let ls = walked f.nodes.items f.ends.items in
    let some : 0 < times c.args.node ls = rw (← c.self.view_is) at c.requires in
    let h = c.self.invariant.range c.args.node some in
    let v = c.index-links.result.now in
    let at : slice_get f.nodes.items c.args.node ≡ Some v = slice_get_read f.nodes.items _ c.args.node v refl h c.index-links.ensures in
    absurd (has_list f.nodes.items f.ends.items ls c.self.invariant c.args.node v h at some c.in_default.is)

pub set_behind-requires-clause-list : goal.set_behind-requires-clause-list
set_behind-requires-clause-list c =
    let f = c.self.inside in
    let ls = walked f.nodes.items f.ends.items in
    let some : 0 < times c.args.node ls = rw (← c.self.view_is) at c.requires in
    let h = c.self.invariant.range c.args.node some in
    let v = c.index-links.result.now in
    let at : slice_get f.nodes.items c.args.node ≡ Some v = slice_get_read f.nodes.items _ c.args.node v refl h c.index-links.ensures in
    let its = in_list f.nodes.items f.ends.items ls c.self.invariant c.args.node v h at c.in-Some.list c.in-Some.is in
    omega (arith, its.0, c.self.invariant.count)

pub set_behind-requires-clause-node : goal.set_behind-requires-clause-node
set_behind-requires-clause-node c =
    let f = c.self.inside in
    let ls = walked f.nodes.items f.ends.items in
    let some : 0 < times c.args.node ls = rw (← c.self.view_is) at c.requires in
    let h = c.self.invariant.range c.args.node some in
    let v = c.index-links.result.now in
    let at : slice_get f.nodes.items c.args.node ≡ Some v = slice_get_read f.nodes.items _ c.args.node v refl h c.index-links.ensures in
    let its = in_list f.nodes.items f.ends.items ls c.self.invariant c.args.node v h at c.in-Some.list c.in-Some.is in
    rw its.2 (ahead_range f.nodes.items f.ends.items ls c.self.invariant c.args.node c.in-Some.list)

pub set_before-requires-clause-list : goal.set_before-requires-clause-list
set_before-requires-clause-list c =
    let f = c.self.inside in
    let ls = walked f.nodes.items f.ends.items in
    let some : 0 < times c.args.node ls = rw (← c.self.view_is) at c.requires in
    let h = c.self.invariant.range c.args.node some in
    let v = c.index-links.result.now in
    let at : slice_get f.nodes.items c.args.node ≡ Some v = slice_get_read f.nodes.items _ c.args.node v refl h c.index-links.ensures in
    let its = in_list f.nodes.items f.ends.items ls c.self.invariant c.args.node v h at c.in-Some.list c.in-Some.is in
    rw c.set_behind.ensures.ends (omega (arith, its.0, c.self.invariant.count, length_first v.previous v.next c.in-Some.list f.ends.items))

pub set_before-requires-clause-node : goal.set_before-requires-clause-node
set_before-requires-clause-node c =
    let f = c.self.inside in
    let ls = walked f.nodes.items f.ends.items in
    let some : 0 < times c.args.node ls = rw (← c.self.view_is) at c.requires in
    let h = c.self.invariant.range c.args.node some in
    let v = c.index-links.result.now in
    let at : slice_get f.nodes.items c.args.node ≡ Some v = slice_get_read f.nodes.items _ c.args.node v refl h c.index-links.ensures in
    let its = in_list f.nodes.items f.ends.items ls c.self.invariant c.args.node v h at c.in-Some.list c.in-Some.is in
    rw (c.set_behind.ensures.nodes, length_next v.previous v.next f.nodes.items, its.3) (behind_range f.nodes.items f.ends.items ls c.self.invariant c.args.node c.in-Some.list)

pub index_mut-requires : goal.index_mut-requires
index_mut-requires c =
    let f = c.self.inside in
    let ls = walked f.nodes.items f.ends.items in
    let some : 0 < times c.args.node ls = rw (← c.self.view_is) at c.requires in
    let h = c.self.invariant.range c.args.node some in
    let v = c.index-links.result.now in
    let at : slice_get f.nodes.items c.args.node ≡ Some v = slice_get_read f.nodes.items _ c.args.node v refl h c.index-links.ensures in
    let count : length c.set_before.new.nodes.items ≡ length f.nodes.items =
    ap (λ (ns : List Node). length ns) (c.set_before.ensures.nodes ∙ ap (λ (ns : List Node). with_previous v.next v.previous ns) c.set_behind.ensures.nodes) ∙ length_previous v.next v.previous _ ∙ length_next v.previous v.next f.nodes.items in
    omega (arith, h, count, c.set_before.new.nodes.ok.0)

pub invariant_of-self : goal.invariant_of-self
invariant_of-self c =
    let f = c.self.inside in
    let ls = walked f.nodes.items f.ends.items in
    let some : 0 < times c.args.node ls = rw (← c.self.view_is) at c.requires in
    let h = c.self.invariant.range c.args.node some in
    let v = c.index-links.result.now in
    let at : slice_get f.nodes.items c.args.node ≡ Some v = slice_get_read f.nodes.items _ c.args.node v refl h c.index-links.ensures in
    let free : Node = record { previous = None; next = None; list = None } in
    let nodes = ap (λ (ns : List Node). set ns c.args.node free) (c.set_before.ensures.nodes ∙ ap (λ (ns : List Node). with_previous v.next v.previous ns) c.set_behind.ensures.nodes) in
    let ends = c.set_before.ensures.ends ∙ ap (λ (es : List Ends). with_last v.next v.previous c.in-Some.list es) c.set_behind.ensures.ends in
    let linked = unlinked f.nodes.items f.ends.items ls c.self.invariant c.in-Some.list c.args.node h v at c.in-Some.is _ c.set_before.new.ends.items nodes ends in
    linked_seen _ _ _ linked

pub returns-clause-lists : goal.returns-clause-lists
returns-clause-lists c =
    let f = c.self.inside in
    let ls = walked f.nodes.items f.ends.items in
    let some : 0 < times c.args.node ls = rw (← c.self.view_is) at c.requires in
    let h = c.self.invariant.range c.args.node some in
    let v = c.index-links.result.now in
    let at : slice_get f.nodes.items c.args.node ≡ Some v = slice_get_read f.nodes.items _ c.args.node v refl h c.index-links.ensures in
    let free : Node = record { previous = None; next = None; list = None } in
    let nodes = ap (λ (ns : List Node). set ns c.args.node free) (c.set_before.ensures.nodes ∙ ap (λ (ns : List Node). with_previous v.next v.previous ns) c.set_behind.ensures.nodes) in
    let ends = c.set_before.ensures.ends ∙ ap (λ (es : List Ends). with_last v.next v.previous c.in-Some.list es) c.set_behind.ensures.ends in
    let linked = unlinked f.nodes.items f.ends.items ls c.self.invariant c.in-Some.list c.args.node h v at c.in-Some.is _ c.set_before.new.ends.items nodes ends in
    let count = ap (λ (ns : List Node). length ns) nodes ∙ length-set _ c.args.node free ∙ length_previous v.next v.previous _ ∙ length_next v.previous v.next f.nodes.items in
    rw (← c.self.view_is) (λ i. record { nodes = count i; lists = seen _ _ _ linked i })

pub returns-clause-count : goal.returns-clause-count
returns-clause-count c =
    let f = c.self.inside in
    let ls = walked f.nodes.items f.ends.items in
    let some : 0 < times c.args.node ls = rw (← c.self.view_is) at c.requires in
    let h = c.self.invariant.range c.args.node some in
    let v = c.index-links.result.now in
    let at : slice_get f.nodes.items c.args.node ≡ Some v = slice_get_read f.nodes.items _ c.args.node v refl h c.index-links.ensures in
    let free : Node = record { previous = None; next = None; list = None } in
    let nodes = ap (λ (ns : List Node). set ns c.args.node free) (c.set_before.ensures.nodes ∙ ap (λ (ns : List Node). with_previous v.next v.previous ns) c.set_behind.ensures.nodes) in
    let ends = c.set_before.ensures.ends ∙ ap (λ (es : List Ends). with_last v.next v.previous c.in-Some.list es) c.set_behind.ensures.ends in
    let linked = unlinked f.nodes.items f.ends.items ls c.self.invariant c.in-Some.list c.args.node h v at c.in-Some.is _ c.set_before.new.ends.items nodes ends in
    rw (seen _ _ _ linked, ← c.self.view_is) (length_unlink c.args.node ls)
