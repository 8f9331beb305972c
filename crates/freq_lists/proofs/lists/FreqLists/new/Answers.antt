use Rattle.std.proofs.Common.{rules, arith, None, refl}
use Rattle.std.proofs.lemmas.List.{length-replicate}
use Rattle.freq_lists.specs.declared.links.Node.{Node}
use Rattle.freq_lists.proofs.Walks.{linked_new, linked_seen, seen}
use Rattle.freq_lists.proofs.lists.FreqLists.new.Goals as goal

pub invariant_of-result : goal.invariant_of-result
invariant_of-result c =
    let nodes = c.in_ok-vec.ensures.items_if_clones_equal (λ y h. search rules) in
    let ends = c.in_ok-vec-2.ensures.items_if_clones_equal (λ y h. search rules) in
    rw (nodes, ends) (linked_seen _ _ _ (linked_new c.args.nodes c.args.lists (omega arith) (omega arith)))

pub returns : goal.returns
returns c =
    let nodes = c.in_ok-vec.ensures.items_if_clones_equal (λ y h. search rules) in
    let ends = c.in_ok-vec-2.ensures.items_if_clones_equal (λ y h. search rules) in
    rw (nodes, ends, seen _ _ _ (linked_new c.args.nodes c.args.lists (omega arith) (omega arith)), length-replicate {A = Node} c.args.nodes (record { previous = None; next = None; list = None })) refl
