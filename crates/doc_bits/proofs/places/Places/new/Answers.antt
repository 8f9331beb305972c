use Rattle.std.proofs.Common.{◌<◌, ◌≡◌, ℕ, List, [], ◌∷◌, get_or, subst, sym, refl, ◌∙◌, arith}
use Rattle.std.proofs.lemmas.List.{nil_from_length}
use Rattle.doc_bits.specs.Words.{places_of_words}
use Rattle.doc_bits.proofs.PlaceLemmas.{no_places}
use Rattle.doc_bits.proofs.places.Places.new.Goals as goal

of_nothing : (words : List ℕ) → words ≡ [] → places_of_words 0 (0 ∷ words) ≡ places_of_words 0 words
of_nothing words e =
    let P : List ℕ → Type 0 = λ xs. places_of_words 0 (0 ∷ xs) ≡ places_of_words 0 xs in
    subst P (sym e) (no_places 0 (0 ∷ []) only_zero ∙ sym (no_places 0 [] (λ j low. refl)))
  where
    only_zero : (j : ℕ) → j < 1 → get_or {A = ℕ} (0 ∷ []) j 0 ≡ 0
    only_zero j low = let at : j ≡ 0 = omega arith in rw at refl

pub returns-in-None : goal.returns-in-None
returns-in-None c = of_nothing c.args.words.now (nil_from_length c.args.words.now c.in-None.ensures.cases)
