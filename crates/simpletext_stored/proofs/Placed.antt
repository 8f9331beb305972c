-- The places of documents, as a text of stored fields is read.
use Rattle.std.proofs.Common.{◌≡◌, ℕ, ◌≤◌, ◌∙◌, ap, sym, refl, arith, append-nil, Bool, List, [], ◌∷◌, ◌++◌, Ok, Err}
use Rattle.std.specs.Prelude.{IfOk, Result}
use Rattle.simpletext_stored.specs.Reading.{Lines, Takes}
use Rattle.simpletext_stored.specs.Stored.{form_of, is_allowed, line_places}
use Rattle.simpletext_stored.specs.Steps.{IsStateOf, Step, AreRising, HoldsPlaces, own_place}
use Rattle.simpletext_stored.specs.declared.form.Form.{Form}
use Rattle.simpletext_stored.specs.declared.form.Form.TheVariants.{Doc, Field, Name, OfType, Value, End, Checksum, Unknown}
use Rattle.simpletext_stored.specs.declared.state.State.{State}

rising_on : (places : List ℕ) (at now : ℕ) → at ≤ now → AreRising places at → AreRising places now
rising_on [] at now le h = tt
rising_on (p ∷ []) at now le h = omega (arith, le, h)
rising_on (p ∷ q ∷ places) at now le h = (h.0, rising_on (q ∷ places) at now le h.1)

rising_with : (places : List ℕ) (at now : ℕ) → at ≤ now → AreRising places at → AreRising (places ++ at ∷ []) now
rising_with [] at now le h = le
rising_with (p ∷ []) at now le h = (h, le)
rising_with (p ∷ q ∷ places) at now le h = (h.0, rising_with (q ∷ places) at now le h.1)

rising_after : (form : Form) (places : List ℕ) (at now : ℕ) → at ≤ now → AreRising places at → AreRising (places ++ own_place at form) now
rising_after (Doc n) places at now le h = rising_with places at now le h
rising_after Field places at now le h = rw append-nil (rising_on places at now le h)
rising_after Name places at now le h = rw append-nil (rising_on places at now le h)
rising_after (OfType kind) places at now le h = rw append-nil (rising_on places at now le h)
rising_after Value places at now le h = rw append-nil (rising_on places at now le h)
rising_after End places at now le h = rising_with places at now le h
rising_after Checksum places at now le h = rw append-nil (rising_on places at now le h)
rising_after Unknown places at now le h = rw append-nil (rising_on places at now le h)

own_place_is : (at : ℕ) (form : Form) (content : List ℕ) → line_places ((at, form, content) ∷ []) ≡ own_place at form
own_place_is at (Doc n) content = refl
own_place_is at Field content = refl
own_place_is at Name content = refl
own_place_is at (OfType kind) content = refl
own_place_is at Value content = refl
own_place_is at End content = refl
own_place_is at Checksum content = refl
own_place_is at Unknown content = refl

line_places-append : (xs ys : Lines Form) → line_places (xs ++ ys) ≡ line_places xs ++ line_places ys
line_places-append [] ys = refl
line_places-append ((at, Doc n, l) ∷ xs) ys = ap (λ r. at ∷ r) (line_places-append xs ys)
line_places-append ((at, Field, l) ∷ xs) ys = line_places-append xs ys
line_places-append ((at, Name, l) ∷ xs) ys = line_places-append xs ys
line_places-append ((at, OfType kind, l) ∷ xs) ys = line_places-append xs ys
line_places-append ((at, Value, l) ∷ xs) ys = line_places-append xs ys
line_places-append ((at, End, l) ∷ xs) ys = ap (λ r. at ∷ r) (line_places-append xs ys)
line_places-append ((at, Checksum, l) ∷ xs) ys = line_places-append xs ys
line_places-append ((at, Unknown, l) ∷ xs) ys = line_places-append xs ys

pub none_placed : (docs : ℕ) (state : State) → IsStateOf docs [] state → state.places.items ≡ [] → HoldsPlaces docs [] [] 0 state
none_placed docs state is none = record { is = is; rising = rw none tt; places = none }

line_placed : (docs : ℕ) (past : List Form) (kept : Lines Form) (at : ℕ) (state : State) → HoldsPlaces docs past kept at state
    → (content : List ℕ) (new : State) (b : Bool) → Step docs past at (form_of content) state new b → Takes form_of (is_allowed docs) (HoldsPlaces docs) past kept at content new b
line_placed docs past kept at state held content new b step = record {
  same = step.same;
  after = λ so now le. record {
    is = step.after so;
    rising = rw (step.places so) (rising_after (form_of content) state.places.items at now le held.rising);
    places = step.places so ∙ ap (λ p. p ++ own_place at (form_of content)) held.places ∙ ap (λ p. line_places kept ++ p) (sym (own_place_is at (form_of content) content))
        ∙ sym (line_places-append kept ((at, form_of content, content) ∷ []));
  };
}

pub answer_placed : {E : Type 0} (docs : ℕ) (past : List Form) (kept : Lines Form) (at : ℕ) (state : State) → HoldsPlaces docs past kept at state
    → (content : List ℕ) (new : State) (r : Result Bool E) → IfOk r (Step docs past at (form_of content) state new) → IfOk r (Takes form_of (is_allowed docs) (HoldsPlaces docs) past kept at content new)
answer_placed docs past kept at state held content new (Ok b) step = line_placed docs past kept at state held content new b step
answer_placed docs past kept at state held content new (Err e) step = tt
