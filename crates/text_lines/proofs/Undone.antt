-- What is escaped is read again.
use Rattle.std.proofs.Common.{arith, ◌≡◌, ℕ, zero, suc, ◌+◌, ◌<◌, ◌≤◌, length, take, drop, get_or, List, [], ◌∷◌, ◌++◌, Option, Some, None, sym, append_assoc, append-nil, ◌-◌, Bool, true, false, refl, ap, ap₂, ◌∙◌}
use Rattle.std.specs.Prelude.{◌==◌, ◌||◌}
use Rattle.std.proofs.lemmas.List.{drop_more, length-drop}
use Rattle.std.proofs.Math.Seq.{take-length, drop-length}
use Rattle.std.proofs.Math.ListN.{drop_of_length-le}
use Rattle.text_lines.proofs.Cuts.{IsPlain, neither}
use Rattle.text_lines.specs.Escapes.{put_front, escape, escaped_byte, unescape, unescape_after, newline, backslash}

pub put_front-put_front : (s t : List ℕ) (o : Option (List ℕ)) → put_front s (put_front t o) ≡ put_front (s ++ t) o
put_front-put_front s t None = refl
put_front-put_front s t (Some r) = ap (λ (x : List ℕ). Some x) (sym (append_assoc s t r))

pub put_front-nil : (o : Option (List ℕ)) → put_front [] o ≡ o
put_front-nil None = refl
put_front-nil (Some r) = refl

byte_undone : (b : ℕ) (rest : List ℕ) (slash line : Bool) → (b == backslash) ≡ slash → (b == newline) ≡ line
    → unescape (escaped_byte b ++ rest) ≡ put_front (b ∷ []) (unescape rest)
byte_undone b rest true true s n = simp (n, s)
byte_undone b rest true false s n = simp (n, s)
byte_undone b rest false true s n = simp (n, s)
byte_undone b rest false false s n = simp (n, s)

pub escape_undone : (x : List ℕ) → unescape (escape x) ≡ Some x
escape_undone [] = refl
escape_undone (b ∷ x) = byte_undone b (escape x) _ _ refl refl ∙ ap (put_front (b ∷ [])) (escape_undone x)

-- a run of bytes that are no newline and no backslash
plain_escaped : (x : ℕ) (rest : List ℕ) → (x == newline) ≡ false → (x == backslash) ≡ false → escaped_byte x ++ rest ≡ x ∷ rest
plain_escaped x rest n s = simp (n, s)

pub escape_run : (i : ℕ) (bytes : List ℕ) → i ≤ length bytes → IsPlain bytes i → escape bytes ≡ take i bytes ++ escape (drop i bytes)
escape_run zero bytes le h = refl
escape_run (suc i) [] le h = absurd (omega (arith, le))
escape_run (suc i) (x ∷ bytes) le h =
    let p = neither (x == newline) (x == backslash) (h 0 (omega arith) (omega arith)) in
    let later = escape_run i bytes (omega (arith, le)) (λ j low below. h (suc j) (omega arith) (omega (arith, below))) in
    plain_escaped x (escape bytes) p.0 p.1 ∙ ap (λ (r : List ℕ). x ∷ r) later

plain_read : (x : ℕ) (bytes : List ℕ) → (x == newline) ≡ false → (x == backslash) ≡ false → unescape (x ∷ bytes) ≡ put_front (x ∷ []) (unescape bytes)
plain_read x bytes n s = simp (n, s)

pub unescape_run : (i : ℕ) (bytes : List ℕ) → i ≤ length bytes → IsPlain bytes i → unescape bytes ≡ put_front (take i bytes) (unescape (drop i bytes))
unescape_run zero bytes le h = sym (put_front-nil (unescape bytes))
unescape_run (suc i) [] le h = absurd (omega (arith, le))
unescape_run (suc i) (x ∷ bytes) le h =
    let p = neither (x == newline) (x == backslash) (h 0 (omega arith) (omega arith)) in
    let later = unescape_run i bytes (omega (arith, le)) (λ j low below. h (suc j) (omega arith) (omega (arith, below))) in
    plain_read x bytes p.0 p.1
    ∙ ap (put_front (x ∷ [])) later
    ∙ put_front-put_front (x ∷ []) (take i bytes) (unescape (drop i bytes))

pub escape_plain : (bytes : List ℕ) → IsPlain bytes (length bytes) → escape bytes ≡ bytes
escape_plain bytes h =
    let le : length bytes ≤ length bytes = omega arith in
    escape_run (length bytes) bytes le h ∙ ap₂ (λ (x y : List ℕ). x ++ escape y) (take-length bytes) (drop-length bytes) ∙ append-nil bytes

pub unescape_plain : (bytes : List ℕ) → IsPlain bytes (length bytes) → unescape bytes ≡ Some bytes
unescape_plain bytes h =
    let le : length bytes ≤ length bytes = omega arith in
    unescape_run (length bytes) bytes le h
    ∙ ap₂ (λ (x y : List ℕ). put_front x (unescape y)) (take-length bytes) (drop-length bytes)
    ∙ ap (λ (x : List ℕ). Some x) (append-nil bytes)

-- a byte that is escaped, or is a backslash
abbrev pub IsMarked : ℕ → Type 0
IsMarked x = (x == newline || x == backslash) ≡ true

marked_escaped : (x : ℕ) (rest : List ℕ) (line : Bool) → (x == newline) ≡ line → IsMarked x → escaped_byte x ++ rest ≡ backslash ∷ x ∷ rest
marked_escaped x rest true n m = simp n
marked_escaped x rest false n m = simp m

-- the rest of a list, as a slice gives it
rest_of : (k : ℕ) (xs : List ℕ) → take (length xs - k) (drop k xs) ≡ drop k xs
rest_of k xs = ap (λ (n : ℕ). take n (drop k xs)) (sym (length-drop k xs)) ∙ take-length (drop k xs)

module _ (front bytes : List ℕ) (i : ℕ) (inside : i < length bytes) (plain : IsPlain bytes i) where
  escaped_up_to : IsMarked (get_or bytes i 0) → escape bytes ≡ take i bytes ++ backslash ∷ get_or bytes i 0 ∷ escape (drop (i + 1) bytes)
  escaped_up_to is =
      let le : i ≤ length bytes = omega arith in
      escape_run i bytes le plain
      ∙ ap (λ (d : List ℕ). take i bytes ++ escape d) (drop_more bytes i 0 inside)
      ∙ ap (λ (r : List ℕ). take i bytes ++ r) (marked_escaped (get_or bytes i 0) (escape (drop (i + 1) bytes)) _ refl is)

  -- one run more, and the byte behind it
  pub escape_on : (whole : List ℕ) → IsMarked (get_or bytes i 0) → front ++ escape bytes ≡ whole
      → (((front ++ take i bytes) ++ backslash ∷ []) ++ get_or bytes i 0 ∷ []) ++ escape (take (length bytes - (i + 1)) (drop (i + 1) bytes)) ≡ whole
  escape_on whole is h =
      let rest = rest_of (i + 1) bytes in
      simp (append_assoc, rest) (sym (ap (λ (r : List ℕ). front ++ r) (escaped_up_to is)) ∙ h)

  read_up_to : unescape bytes ≡ put_front (take i bytes) (unescape (get_or bytes i 0 ∷ drop (i + 1) bytes))
  read_up_to =
      let le : i ≤ length bytes = omega arith in
      unescape_run i bytes le plain ∙ ap (λ (d : List ℕ). put_front (take i bytes) (unescape d)) (drop_more bytes i 0 inside)

  -- a newline with no backslash before it
  pub unescape_newline : (whole : Option (List ℕ)) → get_or bytes i 0 ≡ newline → put_front front (unescape bytes) ≡ whole → None ≡ whole
  unescape_newline whole is h =
      sym (ap (put_front front) (read_up_to ∙ ap (λ (x : ℕ). put_front (take i bytes) (unescape (x ∷ drop (i + 1) bytes))) is)) ∙ h

  after_backslash : get_or bytes i 0 ≡ backslash → unescape bytes ≡ put_front (take i bytes) (unescape_after true (drop (i + 1) bytes))
  after_backslash is = read_up_to ∙ ap (λ (x : ℕ). put_front (take i bytes) (unescape (x ∷ drop (i + 1) bytes))) is

  -- a backslash that is last
  pub unescape_last : (whole : Option (List ℕ)) → get_or bytes i 0 ≡ backslash → i + 1 ≡ length bytes → put_front front (unescape bytes) ≡ whole → None ≡ whole
  unescape_last whole is last h =
      let le : length bytes ≤ i + 1 = omega arith in
      let none = ap (λ (d : List ℕ). put_front (take i bytes) (unescape_after true d)) (drop_of_length-le bytes le) in
      sym (ap (put_front front) (after_backslash is ∙ none)) ∙ h

  -- one run more, and the byte behind the backslash behind it
  pub unescape_on : (whole : Option (List ℕ)) → get_or bytes i 0 ≡ backslash → i + 1 < length bytes → put_front front (unescape bytes) ≡ whole
      → put_front ((front ++ take i bytes) ++ get_or bytes (i + 1) 0 ∷ []) (unescape (take (length bytes - (i + 2)) (drop (i + 2) bytes))) ≡ whole
  unescape_on whole is more h =
      let rest = rest_of (i + 2) bytes in
      let left = unescape (drop (i + 2) bytes) in
      let two : i + 1 + 1 ≡ i + 2 = omega arith in
      let behind = drop_more bytes (i + 1) 0 more ∙ ap (λ (k : ℕ). get_or bytes (i + 1) 0 ∷ drop k bytes) two in
      let e = after_backslash is ∙ ap (λ (d : List ℕ). put_front (take i bytes) (unescape_after true d)) behind in
      ap (λ (d : List ℕ). put_front ((front ++ take i bytes) ++ get_or bytes (i + 1) 0 ∷ []) (unescape d)) rest
      ∙ sym (put_front-put_front (front ++ take i bytes) (get_or bytes (i + 1) 0 ∷ []) left)
      ∙ sym (put_front-put_front front (take i bytes) (put_front (get_or bytes (i + 1) 0 ∷ []) left))
      ∙ sym (ap (put_front front) e)
      ∙ h
