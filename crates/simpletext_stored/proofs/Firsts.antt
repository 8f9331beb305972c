-- The first line of a text by itself.
use Rattle.std.proofs.Common.{◌≡◌, ℕ, suc, ◌+◌, ◌<◌, ◌≤◌, ◌∙◌, ap, subst, refl, arith, Bool, true, false, List, [], ◌∷◌, ◌++◌, length, take, drop}
use Rattle.std.specs.Prelude.{◌==◌}
use Rattle.text_lines.specs.Escapes.{newline, backslash}
use Rattle.text_lines.specs.Lines.{Taken, Cut, cut, ended, nothing, grown, in_front, in_front_of}
use Rattle.text_lines.specs.Walks.{taken, then_lines}

abbrev pub cut_of : List Taken → Taken → Cut
cut_of ls tail = record { lines = ls; tail = tail }

-- the bytes of the first line make that line whatever stands behind them, and behind them stand the other lines
pub record IsFirst (text : List ℕ) (l : Taken) (ls : List Taken) (tail : Taken) : Type 0 where
  pub some : 0 < l.size
  pub inside : l.size ≤ length text
  pub alone : (u : List ℕ) → cut (take l.size text ++ u) ≡ then_lines l (cut u)
  pub later : cut (drop l.size text) ≡ cut_of ls tail

abbrev FirstOf : List ℕ → List Taken → Taken → Type 0
FirstOf text [] tail = Unit {0}
FirstOf text (l ∷ ls) tail = IsFirst text l ls tail

cut_newline : (x : ℕ) (t : List ℕ) → (x == newline) ≡ true → cut (x ∷ t) ≡ ended (cut t)
unfolding cut
cut_newline x [] is = rw is refl
cut_newline x (y ∷ t) is = rw is refl

cut_plain : (x : ℕ) (t : List ℕ) → (x == newline) ≡ false → (x == backslash) ≡ false → cut (x ∷ t) ≡ in_front x 1 (cut t)
unfolding cut
cut_plain x [] n s = rw n refl
cut_plain x (y ∷ t) n s = rw (n, s) refl

cut_slash : (x y : ℕ) (t : List ℕ) → (x == newline) ≡ false → (x == backslash) ≡ true → cut (x ∷ y ∷ t) ≡ in_front y 2 (cut t)
unfolding cut
cut_slash x y t n s = rw (n, s) refl

cut_last : (x : ℕ) → (x == newline) ≡ false → cut (x ∷ []) ≡ in_front x 1 nothing
unfolding cut
cut_last x n = rw n refl

-- a newline ends a line of no content
first_newline : (x : ℕ) (t : List ℕ) → (x == newline) ≡ true → IsFirst (x ∷ t) (taken [] 1) (cut t).lines (cut t).tail
first_newline x t is = record {
  some = omega arith;
  inside = omega arith;
  alone = λ u. cut_newline x u is;
  later = refl;
}

module _ (t : List ℕ) (l : Taken) (ls : List Taken) (tail : Taken) (h : IsFirst t l ls tail) where
  first_plain : (x : ℕ) → (x == newline) ≡ false → (x == backslash) ≡ false → IsFirst (x ∷ t) (grown x 1 l) ls tail
  first_plain x n s =
      let a = h.some in
      let b = h.inside in
      let size : 1 + l.size ≡ suc l.size = omega arith in
      record {
        some = omega arith;
        inside = omega arith;
        alone = λ u. rw size (cut_plain x (take l.size t ++ u) n s ∙ ap (in_front x 1) (h.alone u) ∙ ap (λ k. then_lines (taken (x ∷ l.content) k) (cut u)) size);
        later = rw size h.later;
      }

  first_slash : (x y : ℕ) → (x == newline) ≡ false → (x == backslash) ≡ true → IsFirst (x ∷ y ∷ t) (grown y 2 l) ls tail
  first_slash x y n s =
      let a = h.some in
      let b = h.inside in
      let size : 2 + l.size ≡ suc (suc l.size) = omega arith in
      record {
        some = omega arith;
        inside = omega arith;
        alone = λ u. rw size (cut_slash x y (take l.size t ++ u) n s ∙ ap (in_front y 2) (h.alone u) ∙ ap (λ k. then_lines (taken (y ∷ l.content) k) (cut u)) size);
        later = rw size h.later;
      }

plain_of : (x : ℕ) (t : List ℕ) (ls : List Taken) (tail : Taken) → (x == newline) ≡ false → (x == backslash) ≡ false → FirstOf t ls tail
    → FirstOf (x ∷ t) (in_front_of x 1 ls tail).lines (in_front_of x 1 ls tail).tail
plain_of x t [] tail n s h = tt
plain_of x t (l ∷ ls) tail n s h = first_plain t l ls tail h x n s

slash_of : (x y : ℕ) (t : List ℕ) (ls : List Taken) (tail : Taken) → (x == newline) ≡ false → (x == backslash) ≡ true → FirstOf t ls tail
    → FirstOf (x ∷ y ∷ t) (in_front_of y 2 ls tail).lines (in_front_of y 2 ls tail).tail
slash_of x y t [] tail n s h = tt
slash_of x y t (l ∷ ls) tail n s h = first_slash t l ls tail h x y n s

one : (x : ℕ) (a : Bool) → (x == newline) ≡ a → FirstOf (x ∷ []) (cut (x ∷ [])).lines (cut (x ∷ [])).tail
unfolding cut
one x true is = rw is (first_newline x [] is)
one x false n = rw n tt

two : (x y : ℕ) (t : List ℕ) (a b : Bool) → (x == newline) ≡ a → (x == backslash) ≡ b
    → FirstOf (y ∷ t) (cut (y ∷ t)).lines (cut (y ∷ t)).tail → FirstOf t (cut t).lines (cut t).tail
    → FirstOf (x ∷ y ∷ t) (cut (x ∷ y ∷ t)).lines (cut (x ∷ y ∷ t)).tail
two x y t true b is s next later = rw (cut_newline x (y ∷ t) is) (first_newline x (y ∷ t) is)
two x y t false true n s next later = rw (cut_slash x y t n s) (slash_of x y t (cut t).lines (cut t).tail n s later)
two x y t false false n s next later = rw (cut_plain x (y ∷ t) n s) (plain_of x (y ∷ t) (cut (y ∷ t)).lines (cut (y ∷ t)).tail n s next)

firsts : (t : List ℕ) → FirstOf t (cut t).lines (cut t).tail
unfolding cut
firsts [] = tt
firsts (x ∷ []) = one x (x == newline) refl
firsts (x ∷ y ∷ t) = two x y t (x == newline) (x == backslash) refl refl (firsts (y ∷ t)) (firsts t)

pub first_of : (text : List ℕ) (l : Taken) (ls : List Taken) (tail : Taken) → cut text ≡ cut_of (l ∷ ls) tail → IsFirst text l ls tail
first_of text l ls tail is = subst (λ (c : Cut). FirstOf text c.lines c.tail) is (firsts text)
