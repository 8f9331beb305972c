use Rattle.freq_lists.specs.declared.links.Node.{Node}
use Rattle.freq_lists.specs.declared.links.Ends.{Ends}
use Rattle.freq_lists.proofs.Changes.{change_is}
use Rattle.freq_lists.proofs.links.set_behind.Goals as goal

pub returns-in-Some-clause-nodes : goal.returns-in-Some-clause-nodes
returns-in-Some-clause-nodes c =
    let within = rw c.in-Some.is at c.requires.node in
    rw c.in-Some.is (change_is (λ (m : Node). record m { next = c.args.next }) c.in-Some.previous c.index_mut.result.now c.args.nodes.now.items within c.index_mut.ensures.value)

pub returns-in-None-clause-ends : goal.returns-in-None-clause-ends
returns-in-None-clause-ends c = rw c.in-None.is (change_is (λ (e : Ends). record e { first = c.args.next }) c.args.list c.index_mut-in-None.result.now c.args.ends.now.items c.requires.list c.index_mut-in-None.ensures.value)
