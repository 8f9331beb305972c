use Rattle.std.proofs.Common.{◌∙◌, sym, ap, Some}
use Rattle.std.specs.Prelude.{◌==◌}
use Rattle.sparse_tracker.proofs.Finds.{found_at, without_gap_at}
use Rattle.sparse_tracker.proofs.gaps.take_gap.Goals as goal

pub returns-clause-gap : goal.returns-clause-gap
returns-clause-gap c =
    let b = rw c.deref.ensures.value at c.find_gap-at.ensures.bound in
    let p = rw c.deref.ensures.value at c.find_gap-at.ensures.place in
    found_at (λ o. o.id == c.args.id) c.args.gaps.now.items c.find_gap-at.result c.remove.result b p ∙ ap Some (sym c.remove.ensures.value)

pub returns-clause-items : goal.returns-clause-items
returns-clause-items c =
    let b = rw c.deref.ensures.value at c.find_gap-at.ensures.bound in
    let p = rw c.deref.ensures.value at c.find_gap-at.ensures.place in
    c.remove.ensures.items ∙ without_gap_at c.args.id c.find_gap-at.result c.args.gaps.now.items b p
