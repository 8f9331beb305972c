use Rattle.std.proofs.Common.{◌≡◌, ◌∙◌, sym, ap, set, get_or}
use Rattle.std.proofs.lemmas.List.{get_or_default}
use Rattle.sparse_tracker.specs.declared.gaps.OpenGap.{OpenGap}
use Rattle.sparse_tracker.proofs.Finds.{closed_at, moved_at}
use Rattle.sparse_tracker.proofs.gaps.move_gap.Goals as goal

pub returns-then-to-index-clause-items : goal.returns-then-to-index-clause-items
returns-then-to-index-clause-items c =
    let b = rw c.deref.ensures.value at c.find_gap-at.ensures.bound in
    let p = rw c.deref.ensures.value at c.find_gap-at.ensures.place in
    c.remove.ensures.items ∙ closed_at c.args.id c.args.to c.find_gap-at.result c.args.gaps.now.items c.index.result.now b p (c.if-to-index.true ∙ ap (λ (o : OpenGap). o.end) c.index.ensures)

pub returns-else-to-index-clause-items : goal.returns-else-to-index-clause-items
returns-else-to-index-clause-items c =
    let b = rw c.deref.ensures.value at c.find_gap-at.ensures.bound in
    let p = rw c.deref.ensures.value at c.find_gap-at.ensures.place in
    let old = c.args.gaps.now.items in
    let same : get_or old c.find_gap-at.result c.index.result.now ≡ get_or old c.find_gap-at.result c.index_mut.result.now = get_or_default old c.find_gap-at.result c.index.result.now c.index_mut.result.now b in
    ap (λ (o : OpenGap). set old c.find_gap-at.result (record o { upto = c.args.to })) c.index_mut.ensures.value
    ∙ moved_at c.args.id c.args.to c.find_gap-at.result old c.index_mut.result.now b p (λ e. c.if-to-index.false (e ∙ ap (λ (o : OpenGap). o.end) (sym same) ∙ ap (λ (o : OpenGap). o.end) (sym c.index.ensures)))
