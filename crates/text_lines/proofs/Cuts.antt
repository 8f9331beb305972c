-- Steps through the lines of a text.
use Rattle.std.proofs.Common.{◌≡◌, ℕ, zero, suc, ◌+◌, ◌<◌, ◌≤◌, ◌∙◌, ap, ap₂, sym, refl, arith, append_assoc, append-nil, Bool, true, false, List, [], ◌∷◌, ◌++◌, length, take, drop, get_or}
use Rattle.std.specs.Prelude.{◌==◌, ◌||◌}
use Rattle.std.proofs.lemmas.List.{drop_more}
use Rattle.std.proofs.lemmas.Bool.Decides.{nat_tests}
use Rattle.text_lines.specs.Readers.{line_limit}
use Rattle.memchr.specs.Find.{Nowhere, Passes, is_byte2}
use Rattle.text_lines.specs.Escapes.{newline, backslash}
use Rattle.text_lines.specs.Lines.{Taken, Cut, cut, ended, in_front_of}
use Rattle.text_lines.specs.Walks.{taken, then_lines, front, front_of, cut_after, first_size, Lands}
use Rattle.directory_input.proofs.Slices.{zero_add}

abbrev only : List ℕ → ℕ → Cut
only content size = record { lines = []; tail = taken content size }

abbrev leading : List Taken → Taken → List ℕ → ℕ → Cut
leading ls tail content size = then_lines (taken content size) (record { lines = ls; tail = tail })

pub front_twice : (c d : List ℕ) (k n : ℕ) (ls : List Taken) (tail : Taken) → front c k (front_of d n ls tail) ≡ front_of (c ++ d) (k + n) ls tail
front_twice c d k n [] tail =
    let e : k + (n + tail.size) ≡ k + n + tail.size = omega arith in
    ap₂ only (sym (append_assoc c d tail.content)) e
front_twice c d k n (l ∷ ls) tail =
    let e : k + (n + l.size) ≡ k + n + l.size = omega arith in
    ap₂ (leading ls tail) (sym (append_assoc c d l.content)) e

front_none : (ls : List Taken) (tail : Taken) → front_of [] 0 ls tail ≡ record { lines = ls; tail = tail }
front_none [] tail = ap (only tail.content) (zero_add tail.size)
front_none (l ∷ ls) tail = ap (leading ls tail l.content) (zero_add l.size)

front_here : (x n : ℕ) (ls : List Taken) (tail : Taken) → in_front_of x n ls tail ≡ front_of (x ∷ []) n ls tail
front_here x n [] tail = refl
front_here x n (l ∷ ls) tail = refl

front_ended : (c : List ℕ) (k : ℕ) (rest : Cut) → front c k (ended rest) ≡ then_lines (taken c (k + 1)) rest
front_ended c k rest = ap (λ x. then_lines (taken x (k + 1)) rest) (append-nil c)

cut_plain : (x : ℕ) (t : List ℕ) → (x == newline) ≡ false → (x == backslash) ≡ false → cut (x ∷ t) ≡ front (x ∷ []) 1 (cut t)
unfolding cut
cut_plain x [] n s = simp (n, s)
cut_plain x (y ∷ t) n s = simp (n, s, front_here)

pub cut_newline : (t : List ℕ) → cut (newline ∷ t) ≡ ended (cut t)
unfolding cut
cut_newline [] = refl
cut_newline (y ∷ t) = refl

cut_backslash : (t : List ℕ) → cut (backslash ∷ t) ≡ front [] 1 (cut_after true t)
unfolding cut
cut_backslash [] = refl
cut_backslash (y ∷ t) = front_here y 2 (cut t).lines (cut t).tail ∙ sym (front_twice [] (y ∷ []) 1 1 (cut t).lines (cut t).tail)

pub neither : (a b : Bool) → ¬ ((a || b) ≡ true) → (a ≡ false) × (b ≡ false)
neither true b h = absurd (h refl)
neither false true h = absurd (h refl)
neither false false h = (refl, refl)

-- no newline and no backslash among the first bytes
abbrev pub IsPlain : List ℕ → ℕ → Type 0
IsPlain hay i = Nowhere (Passes (is_byte2 newline backslash) hay) 0 i

pub plain_run : (i : ℕ) (hay u : List ℕ) → i ≤ length hay → IsPlain hay i → cut (hay ++ u) ≡ front (take i hay) i (cut (drop i hay ++ u))
plain_run zero hay u le h = sym (front_none (cut (hay ++ u)).lines (cut (hay ++ u)).tail)
plain_run (suc i) [] u le h = absurd (omega (arith, le))
plain_run (suc i) (x ∷ hay) u le h =
    let p = neither (x == newline) (x == backslash) (h 0 (omega arith) (omega arith)) in
    let later = plain_run i hay u (omega (arith, le)) (λ j low below. h (suc j) (omega arith) (omega (arith, below))) in
    let e : 1 + i ≡ suc i = omega arith in
    let rest = cut (drop i hay ++ u) in
    cut_plain x (hay ++ u) p.0 p.1
    ∙ ap (front (x ∷ []) 1) later
    ∙ front_twice (x ∷ []) (take i hay) 1 i rest.lines rest.tail
    ∙ ap (λ m. front (x ∷ take i hay) m rest) e

take_whole : (xs : List ℕ) → take (length xs) xs ≡ xs
take_whole [] = refl
take_whole (x ∷ xs) = ap (λ r. x ∷ r) (take_whole xs)

module _ (c : List ℕ) (k : ℕ) (hay u : List ℕ) where
  run_to : (i : ℕ) → i ≤ length hay → IsPlain hay i → front c k (cut (hay ++ u)) ≡ front (c ++ take i hay) (k + i) (cut (drop i hay ++ u))
  run_to i le h =
      ap (front c k) (plain_run i hay u le h) ∙ front_twice c (take i hay) k i (cut (drop i hay ++ u)).lines (cut (drop i hay ++ u)).tail

  pub run_through : IsPlain hay (length hay) → front c k (cut (hay ++ u)) ≡ front (c ++ hay) (k + length hay) (cut (drop (length hay) hay ++ u))
  run_through h =
      let whole : take (length hay) hay ≡ hay = take_whole hay in
      run_to (length hay) (omega arith) h ∙ ap (λ r. front (c ++ r) (k + length hay) (cut (drop (length hay) hay ++ u))) whole

  run_up_to : (i x : ℕ) → i < length hay → IsPlain hay i → get_or hay i 0 ≡ x
      → front c k (cut (hay ++ u)) ≡ front (c ++ take i hay) (k + i) (cut (x ∷ drop (i + 1) hay ++ u))
  run_up_to i x inside h is =
      run_to i (omega (arith, inside)) h
      ∙ ap (λ d. front (c ++ take i hay) (k + i) (cut (d ++ u))) (drop_more hay i 0 inside)
      ∙ ap (λ y. front (c ++ take i hay) (k + i) (cut (y ∷ drop (i + 1) hay ++ u))) is

  pub to_newline : (i : ℕ) → i < length hay → IsPlain hay i → get_or hay i 0 ≡ newline
      → front c k (cut (hay ++ u)) ≡ then_lines (taken (c ++ take i hay) (k + (i + 1))) (cut (drop (i + 1) hay ++ u))
  to_newline i inside h is =
      let e : k + i + 1 ≡ k + (i + 1) = omega arith in
      let left = drop (i + 1) hay ++ u in
      run_up_to i newline inside h is
      ∙ ap (front (c ++ take i hay) (k + i)) (cut_newline left)
      ∙ front_ended (c ++ take i hay) (k + i) (cut left)
      ∙ ap (λ m. then_lines (taken (c ++ take i hay) m) (cut left)) e

  pub to_backslash : (i : ℕ) → i < length hay → IsPlain hay i → get_or hay i 0 ≡ backslash
      → front c k (cut (hay ++ u)) ≡ front (c ++ take i hay) (k + (i + 1)) (cut_after true (drop (i + 1) hay ++ u))
  to_backslash i inside h is =
      let e : k + i + 1 ≡ k + (i + 1) = omega arith in
      let left = drop (i + 1) hay ++ u in
      let rest = cut_after true left in
      run_up_to i backslash inside h is
      ∙ ap (front (c ++ take i hay) (k + i)) (cut_backslash left)
      ∙ front_twice (c ++ take i hay) [] (k + i) 1 rest.lines rest.tail
      ∙ ap₂ (λ x m. front x m rest) (append-nil (c ++ take i hay)) e

pub is_backslash : (x : ℕ) → (x == newline || x == backslash) ≡ true → ¬ (x ≡ newline) → x ≡ backslash
is_backslash x h n = grind (arith, nat_tests)

-- a text that ends inside a line
pub ends_inside : (text c : List ℕ) (k : ℕ) (slash : Bool) → cut text ≡ front c k (cut_after slash []) → ((cut text).lines ≡ []) × (first_size (cut text) ≡ k)
unfolding cut
ends_inside text c k false h = let e : k + 0 ≡ k = omega arith in (ap (λ (x : Cut). x.lines) h, ap first_size h ∙ e)
ends_inside text c k true h = let e : k + 0 ≡ k = omega arith in (ap (λ (x : Cut). x.lines) h, ap first_size h ∙ e)

pub unended : (text c : List ℕ) (k : ℕ) (slash : Bool) (left : List ℕ) → cut text ≡ front c k (cut_after slash left) → left ≡ [] → ¬ (k ≡ 0) → k ≤ 16777216
    → ((cut text).lines ≡ []) × (0 < first_size (cut text)) × (first_size (cut text) ≤ line_limit)
unended text c k slash left h none some few =
    let e = ends_inside text c k slash (h ∙ ap (λ (x : List ℕ). front c k (cut_after slash x)) none) in
    let least : 0 < first_size (cut text) = omega (arith, e.1, some) in
    let most : first_size (cut text) ≤ 16777216 = omega (arith, e.1, few) in
    (e.0, least, most)

-- a step that does not end the line
pub goes_far : (ended slash_before slash_now : Bool) (before now : List ℕ) (used : ℕ) (bytes left : List ℕ) (whole : Cut) (k : ℕ) → ended ≡ false
    → Lands ended slash_before slash_now before now used bytes left → whole ≡ front before k (cut_after slash_before bytes)
    → whole ≡ front now (k + used) (cut_after slash_now left)
goes_far true slash_before slash_now before now used bytes left whole k e l h = absurd (cc)
goes_far false slash_before slash_now before now used bytes left whole k e l h = h ∙ l k

-- a text before its first byte
pub begins : (text : List ℕ) → cut text ≡ front [] 0 (cut_after false text)
begins text = sym (front_none (cut text).lines (cut text).tail)
