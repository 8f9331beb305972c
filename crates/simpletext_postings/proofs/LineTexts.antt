-- The text of some lines is cut into these lines again, and each is read as the form that it was written for.
use Rattle.std.proofs.Common.{arith, ◌≡◌, ℕ, ◌+◌, ◌≤◌, length, length-append, append_assoc, List, [], ◌∷◌, ◌++◌, sym, Bool, true, false, refl, ap, ◌∙◌, map}
use Rattle.std.specs.Prelude.{◌==◌, nat_lt, codes}
use Rattle.std.specs.Fmt.{decimal}
use Rattle.std.proofs.lemmas.Bool.Decides.{nat_tests}
use Rattle.text_lines.specs.Escapes.{escape, escaped_byte, newline, backslash}
use Rattle.text_lines.specs.Lines.{Taken, Cut, cut, in_front, nothing}
use Rattle.text_lines.proofs.Cuts.{cut_newline}
use Rattle.simpletext_postings.specs.Postings.{form_of, indented_form, doc_of, freq_of, pos_of}
use Rattle.simpletext_postings.specs.Rows.{fits_line, is_small}
use Rattle.simpletext_postings.specs.Forms.{Form}
use Rattle.simpletext_postings.specs.Forms.{Field, Term, Doc, Freq, Pos, End, Checksum}
use Rattle.simpletext_postings.proofs.Cutting.{cut_none}
use Rattle.simpletext_postings.proofs.Digits.{number_decimal, all_digits, ten_digits, escape_digits}

-- ---- one line

abbrev pub line_of : List ℕ → ℕ → Taken
line_of content size = record { content = content; size = size }

abbrev pub leading : List ℕ → ℕ → Cut → Cut
leading content size c = record { lines = line_of content size ∷ c.lines; tail = c.tail }

cut_plain : (x y : ℕ) (t : List ℕ) → (x == newline) ≡ false → (x == backslash) ≡ false → cut (x ∷ y ∷ t) ≡ in_front x 1 (cut (y ∷ t))
unfolding cut
cut_plain x y t n s = simp (n, s)

cut_escaped : (y : ℕ) (t : List ℕ) → cut (backslash ∷ y ∷ t) ≡ in_front y 2 (cut t)
unfolding cut
cut_escaped y t = refl

-- bytes that are some
record Begins (t : List ℕ) : Type 0 where
  first : ℕ
  others : List ℕ
  is : t ≡ first ∷ others

begins_line : (s rest : List ℕ) → Begins (s ++ newline ∷ rest)
begins_line [] rest = record { first = newline; others = rest; is = refl }
begins_line (x ∷ s) rest = record { first = x; others = s ++ newline ∷ rest; is = refl }

-- a byte, with its escape, in front of a line
module _ (x : ℕ) (content t : List ℕ) (size : ℕ) (rest : Cut) (b : Begins t) (later : cut t ≡ leading content size rest) where
  later_is : cut (b.first ∷ b.others) ≡ leading content size rest
  later_is = ap cut (sym b.is) ∙ later

  escaped_in_front : cut (backslash ∷ x ∷ t) ≡ leading (x ∷ content) (2 + size) rest
  escaped_in_front = cut_escaped x t ∙ ap (in_front x 2) later

  plain_in_front : (x == newline) ≡ false → (x == backslash) ≡ false → cut (x ∷ t) ≡ leading (x ∷ content) (1 + size) rest
  plain_in_front n s =
      ap (λ (u : List ℕ). cut (x ∷ u)) b.is ∙ cut_plain x b.first b.others n s ∙ ap (in_front x 1) later_is

  byte_in_front : (line slash : Bool) → (x == newline) ≡ line → (x == backslash) ≡ slash
      → cut (escaped_byte x ++ t) ≡ leading (x ∷ content) (length (escaped_byte x) + size) rest
  byte_in_front true slash n s = rw n escaped_in_front
  byte_in_front false true n s = rw (n, s) escaped_in_front
  byte_in_front false false n s = rw (n, s) (plain_in_front n s)

cut_line : (content rest : List ℕ) → cut (escape content ++ newline ∷ rest) ≡ leading content (length (escape content) + 1) (cut rest)
cut_line [] rest = cut_newline rest
cut_line (x ∷ content) rest =
    let t = escape content ++ newline ∷ rest in
    let size = length (escape content) + 1 in
    let both = length-append (escaped_byte x) (escape content) in
    let same : length (escaped_byte x) + size ≡ length (escaped_byte x ++ escape content) + 1 = omega arith in
    ap cut (append_assoc (escaped_byte x) (escape content) (newline ∷ rest))
    ∙ byte_in_front x content t size (cut rest) (begins_line (escape content) rest) (cut_line content rest) _ _ refl refl
    ∙ ap (λ k. leading (x ∷ content) k (cut rest)) same

-- ---- the lines of forms

-- the content of the line of a form that is written
abbrev pub content : Form → List ℕ
content (Field f) = codes "field " ++ f
content (Term t) = codes "  term " ++ t
content (Doc d) = codes "    doc " ++ decimal d
content (Freq n) = codes "      freq " ++ decimal n
content (Pos p) = codes "      pos " ++ decimal p
content End = codes "END"
content Checksum = codes "checksum 00000000000000000000"
content _ = []

abbrev pub line : Form → Taken
line f = line_of (content f) (length (escape (content f)) + 1)

abbrev pub text_of : List Form → List ℕ
text_of [] = []
text_of (f ∷ fs) = escape (content f) ++ newline ∷ text_of fs

abbrev whole_lines : List Taken → Cut
whole_lines ls = record { lines = ls; tail = nothing.tail }

pub cut_text : (fs : List Form) → cut (text_of fs) ≡ whole_lines (map line fs)
cut_text [] = cut_none
cut_text (f ∷ fs) = cut_line (content f) (text_of fs) ∙ ap (leading (content f) (length (escape (content f)) + 1)) (cut_text fs)

-- ---- each line is read as its form

-- the line is of the form, and not too long
pub record IsRead (f : Form) : Type 0 where
  pub form : form_of (content f) ≡ f
  pub short : nat_lt 16777216 (line f).size ≡ false

pub field_read : (f : List ℕ) → fits_line 6 f ≡ true → IsRead (Field f)
unfolding form_of
field_read f h = record { form = refl; short = grind (arith, nat_tests) }

pub term_read : (t : List ℕ) → fits_line 7 t ≡ true → IsRead (Term t)
unfolding form_of
term_read t h = record { form = refl; short = grind (arith, nat_tests) }

escaped_digits : (n : ℕ) → is_small n ≡ true → length (escape (decimal n)) ≤ 10
escaped_digits n h =
    let most = ten_digits n h in
    let same : length (escape (decimal n)) ≡ length (decimal n) = ap length (escape_digits (decimal n) (all_digits n h)) in
    omega arith

pub doc_read : (n : ℕ) → is_small n ≡ true → IsRead (Doc n)
unfolding form_of indented_form
doc_read n h = let most = escaped_digits n h in record { form = ap doc_of (number_decimal n h); short = grind (arith, nat_tests) }

pub freq_read : (n : ℕ) → is_small n ≡ true → IsRead (Freq n)
unfolding form_of indented_form
freq_read n h = let most = escaped_digits n h in record { form = ap freq_of (number_decimal n h); short = grind (arith, nat_tests) }

pub pos_read : (n : ℕ) → is_small n ≡ true → IsRead (Pos n)
unfolding form_of indented_form
pos_read n h = let most = escaped_digits n h in record { form = ap pos_of (number_decimal n h); short = grind (arith, nat_tests) }

pub end_read : IsRead End
unfolding form_of
end_read = record { form = refl; short = refl }

pub checksum_read : IsRead Checksum
unfolding form_of
checksum_read = record { form = refl; short = refl }
