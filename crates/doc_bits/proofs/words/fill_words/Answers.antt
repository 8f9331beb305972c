use Rattle.std.proofs.Common.{◌∙◌, arith}
use Rattle.doc_bits.proofs.LayoutLemmas.{full_at_end, full_with_last, full_holds, full_clear_past}
use Rattle.doc_bits.proofs.words.fill_words.Goals as goal

pub returns-then-n-ne0-clause-full : goal.returns-then-n-ne0-clause-full
returns-then-n-ne0-clause-full c =
    let same = c.loop-k.auto.words in
    full_holds _ _ (full_with_last c.args.n c.loop-k.words (same ∙ c.requires) (λ k within. c.loop-k.invariant k (omega arith)) c.if-n-ne0.true)

pub returns-then-n-ne0-clause-clear_past : goal.returns-then-n-ne0-clause-clear_past
returns-then-n-ne0-clause-clear_past c =
    let same = c.loop-k.auto.words in
    full_clear_past _ _ (full_with_last c.args.n c.loop-k.words (same ∙ c.requires) (λ k within. c.loop-k.invariant k (omega arith)) c.if-n-ne0.true)

pub returns-else-n-ne0-clause-full : goal.returns-else-n-ne0-clause-full
returns-else-n-ne0-clause-full c =
    let same = c.loop-k.auto.words in
    full_holds _ _ (full_at_end c.args.n c.loop-k.words (same ∙ c.requires) (λ k within. c.loop-k.invariant k (omega arith)) c.if-n-ne0.false)

pub returns-else-n-ne0-clause-clear_past : goal.returns-else-n-ne0-clause-clear_past
returns-else-n-ne0-clause-clear_past c =
    let same = c.loop-k.auto.words in
    full_clear_past _ _ (full_at_end c.args.n c.loop-k.words (same ∙ c.requires) (λ k within. c.loop-k.invariant k (omega arith)) c.if-n-ne0.false)
