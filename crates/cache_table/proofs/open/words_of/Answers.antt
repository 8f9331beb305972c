use Rattle.std.proofs.Common.{arith, ◌≡◌, ℕ, ◌∷◌, ◌++◌, replicate, ◌∙◌, ap}
use Rattle.cache_table.specs.Opened.{free_words}
use Rattle.cache_table.proofs.open.words_of.Goals as goal

pub returns : goal.returns
returns c = let e : c.loop-2.counter ≡ 4096 = (let t = c.loop-2-test.false in let k = c.loop-2.auto.counter-end in omega arith) in
    c.loop-2.invariant ∙ ap (λ (n : ℕ). (0 ∷ free_words c.args.regions) ++ replicate n 0) e
