-- The form of a line by the mark that it begins with.
use Rattle.std.proofs.Common.{arith, ◌≡◌, ℕ, length, drop, List, [], ◌∷◌, ◌++◌, sym, true, false, refl, ap, ap₂, ◌∙◌}
use Rattle.std.specs.Prelude.{nat_eq, codes, ◌&&◌}
use Rattle.std.proofs.Math.Bool.{and_assoc}
use Rattle.std.proofs.lemmas.Bool.{and_parts}
use Rattle.std.proofs.lemmas.Bool.Decides.{nat_tests}
use Rattle.text_lines.specs.Words.{number, begins}
use Rattle.simpletext_postings.specs.Postings.{form_of, indented_form, doc_of, freq_of, pos_of}
use Rattle.simpletext_postings.specs.Forms.{Payload}

begins_front : (mark s : List ℕ) → begins mark s ≡ true → s ≡ mark ++ drop (length mark) s
begins_front [] s h = refl
begins_front (m ∷ mark) [] h = absurd (cc)
begins_front (m ∷ mark) (x ∷ s) h =
    let parts = and_parts (nat_eq m x) (begins mark s) h in
    let own = parts.0 in
    let same : x ≡ m = grind (arith, nat_tests) in
    ap₂ (λ y ys. y ∷ ys) same (begins_front mark s parts.1)

-- a mark in two parts
begins_parts : (front back s : List ℕ) → begins (front ++ back) s ≡ (begins front s && begins back (drop (length front) s))
begins_parts [] back s = refl
begins_parts (m ∷ front) back [] = refl
begins_parts (m ∷ front) back (x ∷ s) =
    ap (λ b. nat_eq m x && b) (begins_parts front back s) ∙ sym (and_assoc (nat_eq m x) (begins front s) (begins back (drop (length front) s)))

pub begins_both : (n : ℕ) (front back s : List ℕ) → length front ≡ n → true ≡ begins front s → begins back (drop n s) ≡ begins (front ++ back) s
begins_both n front back s size first = sym (begins_parts front back s ∙ ap₂ ◌&&◌ (sym first) (ap (λ k. begins back (drop k s)) size))

pub begins_neither : (front back s : List ℕ) → false ≡ begins front s → false ≡ begins (front ++ back) s
begins_neither front back s first = sym (begins_parts front back s ∙ ap (λ b. b && begins back (drop (length front) s)) (sym first))

pos_rest : (rest : List ℕ) → form_of (codes "      pos " ++ rest) ≡ pos_of (number rest)
unfolding form_of indented_form
pos_rest rest = refl

doc_rest : (rest : List ℕ) → form_of (codes "    doc " ++ rest) ≡ doc_of (number rest)
unfolding form_of indented_form
doc_rest rest = refl

freq_rest : (rest : List ℕ) → form_of (codes "      freq " ++ rest) ≡ freq_of (number rest)
unfolding form_of indented_form
freq_rest rest = refl

payload_rest : (rest : List ℕ) → form_of (codes "        payload " ++ rest) ≡ Payload
unfolding form_of indented_form
payload_rest rest = refl

pub pos_form : (s : List ℕ) → begins (codes "      pos ") s ≡ true → pos_of (number (drop 10 s)) ≡ form_of s
pos_form s h = sym (ap form_of (begins_front (codes "      pos ") s h) ∙ pos_rest (drop 10 s))

pub doc_form : (s : List ℕ) → begins (codes "    doc ") s ≡ true → doc_of (number (drop 8 s)) ≡ form_of s
doc_form s h = sym (ap form_of (begins_front (codes "    doc ") s h) ∙ doc_rest (drop 8 s))

pub freq_form : (s : List ℕ) → begins (codes "      freq ") s ≡ true → freq_of (number (drop 11 s)) ≡ form_of s
freq_form s h = sym (ap form_of (begins_front (codes "      freq ") s h) ∙ freq_rest (drop 11 s))

pub payload_form : (s : List ℕ) → begins (codes "        payload ") s ≡ true → Payload ≡ form_of s
payload_form s h = sym (ap form_of (begins_front (codes "        payload ") s h) ∙ payload_rest (drop 16 s))
