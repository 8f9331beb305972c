-- The links after a push and after a removal, as the calls write them.
use Rattle.std.proofs.Common.{◌≡◌, ◌<◌, ℕ, List, length, set, Some, None}
use Rattle.std.specs.Prelude.{slice_get}
use Rattle.freq_lists.specs.declared.links.Node.{Node}
use Rattle.freq_lists.specs.declared.links.Ends.{Ends}
use Rattle.freq_lists.specs.Lists.{push_back, unlink, times}
use Rattle.freq_lists.specs.Links.{IsLinked, with_next, with_previous, with_first, with_last}
use Rattle.freq_lists.proofs.Linked.{linked_push, linked_unlink}
use Rattle.freq_lists.proofs.Shown.{last_is, in_list}

module _ (ns : List Node) (es : List Ends) (ls : List (List ℕ)) (is : IsLinked ns es ls) (k n : ℕ) (h : n < length ns) where
  pub pushed : (e : Ends) → k < length ls → slice_get es k ≡ Some e → times n ls ≡ 0 → (ns' : List Node) (es' : List Ends)
      → ns' ≡ with_next e.last (Some n) (set ns n (record { previous = e.last; next = None; list = Some k }))
      → es' ≡ with_last None (Some n) k (with_first e.last (Some n) k es) → IsLinked ns' es' (push_back k n ls)
  pushed e within at free ns' es' a b =
      let last = (last_is ns es ls is k e within at).1 in
      let c = rw last at a in
      let d = rw last at b in
      rw (c, d) (linked_push ns es ls is k n within h free)

  pub unlinked : (v : Node) → slice_get ns n ≡ Some v → v.list ≡ Some k → (ns' : List Node) (es' : List Ends)
      → ns' ≡ set (with_previous v.next v.previous (with_next v.previous v.next ns)) n (record { previous = None; next = None; list = None })
      → es' ≡ with_last v.next v.previous k (with_first v.previous v.next k es) → IsLinked ns' es' (unlink n ls)
  unlinked v at on ns' es' a b =
      let its = in_list ns es ls is n v h at k on in
      let c = rw (its.2, its.3) at a in
      let d = rw (its.2, its.3) at b in
      rw (c, d) (linked_unlink ns es ls is k n its.0 h its.1)
