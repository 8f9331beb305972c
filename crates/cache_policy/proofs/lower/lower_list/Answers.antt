use Rattle.std.proofs.Common.{arith, ◌≡◌, ◌<◌, ◌∙◌, sym, ℕ, suc, [], ◌∷◌, Some, true, false, refl, add-one}
use Rattle.std.specs.Prelude.{slice_get, filter, take}
use Rattle.std.proofs.lemmas.List.{length-append}
use Rattle.freq_lists.specs.Lists.{list_at}
use Rattle.cache_policy.specs.Steps.{lowering, goes_down}
use Rattle.cache_policy.proofs.Lowered.{take_whole}
use Rattle.cache_policy.proofs.Lowers.{there, none_at, some_at, goes_one, stays_one, kept, lowered, next_is, length-lowering}
use Rattle.cache_policy.proofs.lower.lower_list.Goals as goal
use Rattle.cache_policy.proofs.lower.lower_list.Goals.{then-goes_down, else-goes_down}
use Rattle.freq_lists.proofs.Counts.{times_unlink, length_unlink as length-unlink}

pub goes_down-requires : goal.goes_down-requires
goes_down-requires c =
    let old = c.args.lists.now in
    let goes : ℕ → _ = goes_down c.args.last_accesses.now c.args.min_delta c.args.now in
    let here : slice_get (list_at (suc c.args.below) old.lists) c.loop-at.seen ≡ Some c.in-Some.region = sym c.loop-at.invariant.3 ∙ c.in-Some.is in
    let some = there goes c.in-Some.region c.args.below c.loop-at.seen old.lists here in
    let range : c.in-Some.region < c.loop-at.lists.nodes = c.lesson-in-Some.ensures.range c.in-Some.region (rw c.loop-at.invariant.4 some) in
    omega (arith, rw c.loop-at.invariant.4 at range, c.requires.last_accesses.0)

pub push_back-requires-clause-list : goal.push_back-requires-clause-list
push_back-requires-clause-list c =
    let old = c.args.lists.now in
    let goes : ℕ → _ = goes_down c.args.last_accesses.now c.args.min_delta c.args.now in
    rw (c.unlink.ensures.lists, c.loop-at.invariant.4, length-unlink c.in-Some.region (lowering goes c.args.below c.loop-at.seen old.lists), length-lowering goes c.args.below c.loop-at.seen old.lists) (omega (arith, c.requires.list))

pub push_back-requires-clause-node : goal.push_back-requires-clause-node
push_back-requires-clause-node c =
    let old = c.args.lists.now in
    let goes : ℕ → _ = goes_down c.args.last_accesses.now c.args.min_delta c.args.now in
    let here : slice_get (list_at (suc c.args.below) old.lists) c.loop-at.seen ≡ Some c.in-Some.region = sym c.loop-at.invariant.3 ∙ c.in-Some.is in
    let some = there goes c.in-Some.region c.args.below c.loop-at.seen old.lists here in
    rw c.unlink.ensures.lists (c.lesson-in-Some.ensures.range c.in-Some.region (rw c.loop-at.invariant.4 some))

pub push_back-requires-clause-free : goal.push_back-requires-clause-free
push_back-requires-clause-free c = rw c.unlink.ensures.lists (times_unlink c.in-Some.region c.loop-at.lists.lists)

pub loop-at-preserved : goal.loop-at-preserved
loop-at-preserved c =
    let old = c.args.lists.now in
    let goes : ℕ → _ = goes_down c.args.last_accesses.now c.args.min_delta c.args.now in
    let n = c.in-Some.region in
    let here : slice_get (list_at (suc c.args.below) old.lists) c.loop-at.seen ≡ Some n = sym c.loop-at.invariant.3 ∙ c.in-Some.is in
    let once = rw c.loop-at.invariant.4 at (c.lesson-in-Some.ensures.once n) in
    let below = some_at (list_at (suc c.args.below) old.lists) c.loop-at.seen n here in
    let next = c.next-at.ensures ∙ (rw c.loop-at.invariant.4 (next_is goes n c.args.below c.loop-at.seen old.lists here once)) in
    let l = list_at (suc c.args.below) old.lists in
    let i = c.loop-at.seen in (
      omega (arith, below),
      c.loop-at.invariant.1,
      elim c.if-goes_down.branch [
        | then-goes_down w ↦
            let is : goes n ≡ true = sym c.goes_down.ensures ∙ w.if-goes_down.true in
            let more = (goes_one goes n i l here is).0 in
            rw (w.lowered-is, add-one i, more, length-append (filter goes (take i l)) (n ∷ [])) (omega (arith, c.loop-at.invariant.2))
        | else-goes_down w ↦
            let is : goes n ≡ false = sym c.goes_down.ensures ∙ w.if-goes_down.false in
            rw (w.lowered-is, add-one i, (stays_one goes n i l here is).0) c.loop-at.invariant.2
      ],
      rw add-one next,
      elim c.if-goes_down.branch [
        | then-goes_down w ↦
            let is : goes n ≡ true = sym c.goes_down.ensures ∙ w.if-goes_down.true in
            rw (w.lists-is, w.push_back.ensures.lists, w.unlink.ensures.lists, c.loop-at.invariant.4, add-one i, lowered goes n c.args.below i old.lists here is once) refl
        | else-goes_down w ↦
            let is : goes n ≡ false = sym c.goes_down.ensures ∙ w.if-goes_down.false in
            rw (w.lists-is, c.loop-at.invariant.4, add-one i, kept goes n c.args.below i old.lists here is) refl
      ],
      elim c.if-goes_down.branch [
        | then-goes_down w ↦ rw w.lowered-is (omega arith)
        | else-goes_down w ↦ rw w.lowered-is (omega arith)
      ],
    )

pub returns-clause-count : goal.returns-clause-count
returns-clause-count c =
    let l = list_at (suc c.args.below) c.args.lists.now.lists in
    let last = none_at l c.loop-at.seen (sym c.loop-at.invariant.3 ∙ c.in_default.is) in
    let whole = take_whole c.loop-at.seen l last in
    let counted = rw whole at c.loop-at.invariant.2 in
    counted
