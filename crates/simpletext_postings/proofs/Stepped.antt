-- Item by item through a list, with what was put behind a text so far.
use Rattle.std.proofs.Common.{arith, ◌≡◌, ℕ, ◌+◌, ◌<◌, ◌≤◌, length, drop, append_assoc, append-nil, List, [], ◌∷◌, ◌++◌, Option, None, Some, true, refl, sym, ap, ◌∙◌, slice_get}
use Rattle.std.specs.Prelude.{codes}
use Rattle.std.proofs.lemmas.List.{drop_all}
use Rattle.byte_text.proofs.Lists.{drop_get}
use Rattle.simpletext_postings.specs.Rows.{are_rows}
use Rattle.simpletext_postings.specs.Written.{rows_lines, written}
use Rattle.simpletext_postings.specs.declared.rows.Row.{Row}

-- the piece of the next item stands behind the text now, and the pieces of the others are still to come
pub one_more : {X : Type 0} (pieces later : List X → List ℕ) (piece : List ℕ) (xs : List X) (i : ℕ) (x : X) (text now whole : List ℕ)
    → ((ys : List X) → pieces (x ∷ ys) ≡ piece ++ later ys) → slice_get xs i ≡ Some x
    → text ++ pieces (drop i xs) ≡ whole → now ≡ text ++ piece → now ++ later (drop (i + 1) xs) ≡ whole
one_more pieces later piece xs i x text now whole cons item before more =
    ap (λ (t : List ℕ). t ++ later (drop (i + 1) xs)) more
    ∙ append_assoc text piece (later (drop (i + 1) xs))
    ∙ ap (λ (t : List ℕ). text ++ t) (sym (ap pieces (drop_get xs i x item) ∙ cons (drop (i + 1) xs)))
    ∙ before

-- behind the last row
pub closed : (before : Option Row) (rows : List Row) (i : ℕ) (text : List ℕ) → length rows ≤ i
    → text ++ rows_lines before (drop i rows) ≡ rows_lines None rows → text ++ codes "END\nchecksum 00000000000000000000\n" ≡ written rows
closed before rows i text le h =
    let none : drop i rows ≡ [] = drop_all i rows le in
    let all : text ≡ rows_lines None rows =
    sym (append-nil text) ∙ ap (λ (rs : List Row). text ++ rows_lines before rs) (sym none) ∙ h in
    ap (λ (t : List ℕ). t ++ codes "END\nchecksum 00000000000000000000\n") all

-- what is known from the first row on holds where there is none
pub kept_by : (docs : ℕ) (rows : List Row) (i : ℕ) → length rows ≤ i → (0 < i → are_rows docs rows ≡ true) → are_rows docs rows ≡ true
kept_by docs [] i le h = refl
kept_by docs (r ∷ rows) i le h = h (omega arith)
