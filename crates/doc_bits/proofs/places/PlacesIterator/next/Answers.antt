use Rattle.std.proofs.Common.{◌≡◌, ◌<◌, ◌∷◌, [], get_or, length, refl, sym, ap, ◌∙◌, Fits, w64, rules, arith}
use Rattle.doc_bits.specs.Words.{places_of_words}
use Rattle.doc_bits.proofs.PlaceLemmas.{places-next_word, no_places_left, places-lowest}
use Rattle.doc_bits.proofs.places.PlacesIterator.next.Goals as goal
use Rattle.doc_bits.proofs.places.PlacesIterator.next.Goals.{then-self-eq0+else-skipped-self, else-self-eq0}

pub returns-then-skipped-self-clause-steps : goal.returns-then-skipped-self-clause-steps
returns-then-skipped-self-clause-steps c =
    let p = c.self.inside in
    let none : c.args.self.now ≡ [] =
    sym c.self.view_is ∙ no_places_left p.first p.left p.words.now c.if-self-eq0.true (λ k low. c.empty_words-skipped.ensures.empty k (omega arith)) in
    (none, none)

module _ (c : goal.After-self-2-1) where
  fits : Fits w64 c.if-self-eq0.self-inside.left
  fits = search rules

  some : 0 < c.if-self-eq0.self-inside.left
  some = elim c.if-self-eq0.branch [
    | then-self-eq0+else-skipped-self w ↦
        let left : c.if-self-eq0.self-inside.left ≡ get_or c.self.inside.words.now w.empty_words-skipped.result 0 = ap (λ p. p.left) w.self-inside-is in
        let within = w.empty_words-skipped.ensures.within in
        let stops = w.empty_words-skipped.ensures.stops (omega (arith, w.if-skipped-self.false)) in
        omega arith
    | else-self-eq0 w ↦
        let left : c.if-self-eq0.self-inside.left ≡ c.self.inside.left = ap (λ p. p.left) w.self-inside-is in
        omega (arith, w.if-self-eq0.false)
  ]

  same : c.args.self.now ≡ places_of_words c.if-self-eq0.self-inside.first (c.if-self-eq0.self-inside.left ∷ c.if-self-eq0.self-inside.words.now)
  same = elim c.if-self-eq0.branch [
    | then-self-eq0+else-skipped-self w ↦
        let p = c.self.inside in
        let within = w.empty_words-skipped.ensures.within in
        sym c.self.view_is
        ∙ places-next_word p.first p.left p.words.now _ w.empty_words-skipped.result w.if-self-eq0.true w.empty_words-skipped.ensures.empty (omega (arith, w.if-skipped-self.false)) refl
        ∙ ap (λ q. places_of_words q.first (q.left ∷ q.words.now)) (sym w.self-inside-is)
    | else-self-eq0 w ↦ sym c.self.view_is ∙ ap (λ q. places_of_words q.first (q.left ∷ q.words.now)) (sym w.self-inside-is)
  ]

pub returns-clause-steps : goal.returns-clause-steps
returns-clause-steps c = same c ∙ places-lowest _ _ _ (some c) (fits c).fits

pub returns-clause-goes : goal.returns-clause-goes
returns-clause-goes c = let steps = ap length (returns-clause-steps c) in record { on = λ finite. (tt, finite, omega (arith, steps)); keeps = tt; rests = λ _. tt }
