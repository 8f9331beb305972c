-- The first line of a text, and what stands behind it.
use Rattle.std.proofs.Common.{arith, ◌≡◌, ℕ, suc, ◌+◌, ◌<◌, length, take, drop, List, [], ◌∷◌, Option, Some, None, Bool, true, false, refl, ap, ◌∙◌, true≢false}
use Rattle.std.specs.Prelude.{◌==◌, if◌then◌else◌}
use Rattle.std.proofs.lemmas.Bool.Decides.{nat_tests}
use Rattle.text_lines.specs.Escapes.{put_front, unescape, newline, backslash}
use Rattle.text_lines.specs.Lines.{cut, in_front, ended, nothing}

-- the number of bytes up to the first newline that no backslash takes, that newline counted, after n bytes, where a
-- backslash does or does not stand before
abbrev pub size_after : Bool → ℕ → List ℕ → Option ℕ
size_after taken n [] = None
size_after true n (x ∷ rest) = size_after false (n + 1) rest
size_after false n (x ∷ rest) =
    if x == backslash then size_after true (n + 1) rest
    else if x == newline then Some (n + 1)
    else size_after false (n + 1) rest

-- ---- the first line

-- the first line has `raw` bytes and this content, and the others follow
pub record IsEnd (n : ℕ) (text : List ℕ) (m raw : ℕ) (content : List ℕ) : Type 0 where
  pub size : m ≡ n + suc raw
  pub inside : raw < length text
  pub undone : unescape (take raw text) ≡ Some content
  pub lines : (cut text).lines ≡ record { content = content; size = suc raw } ∷ (cut (drop (suc raw) text)).lines
  pub tail : (cut text).tail ≡ (cut (drop (suc raw) text)).tail

abbrev pub Ends : ℕ → List ℕ → Option ℕ → Type 0
Ends n text None = ((cut text).lines ≡ []) × ((cut text).tail.size ≡ length text)
Ends n text (Some m) = (raw : ℕ) × (content : List ℕ) × IsEnd n text m raw content

front_taken : (x : ℕ) (n : ℕ) (t : List ℕ) (o : Option ℕ) (same : cut (x ∷ t) ≡ in_front x 1 (cut t)) → (x == backslash) ≡ false → (x == newline) ≡ false
    → Ends (n + 1) t o → Ends n (x ∷ t) o
front_taken x n t None same s l h = (rw (same, h.0) refl, rw (same, h.0, h.1) (omega arith))
front_taken x n t (Some m) same s l (raw, content, e) = (
  suc raw,
  x ∷ content,
  record {
    size = let d = e.size in omega arith;
    inside = let d = e.inside in omega arith;
    undone = rw (s, l) (ap (put_front (x ∷ [])) e.undone);
    lines = let d : 1 + suc raw ≡ suc (suc raw) = omega arith in rw (same, e.lines) (ap (λ k. record { content = x ∷ content; size = k } ∷ (cut (drop (suc raw) t)).lines) d);
    tail = rw (same, e.lines, e.tail) refl;
  },
)

front_escaped : (x y : ℕ) (n : ℕ) (t : List ℕ) (o : Option ℕ) (same : cut (x ∷ y ∷ t) ≡ in_front y 2 (cut t)) → (x == backslash) ≡ true
    → Ends (n + 1 + 1) t o → Ends n (x ∷ y ∷ t) o
front_escaped x y n t None same s h = (rw (same, h.0) refl, rw (same, h.0, h.1) (omega arith))
front_escaped x y n t (Some m) same s (raw, content, e) = (
  suc (suc raw),
  y ∷ content,
  record {
    size = let d = e.size in omega arith;
    inside = let d = e.inside in omega arith;
    undone = rw s (ap (put_front (y ∷ [])) e.undone);
    lines = let d : 2 + suc raw ≡ suc (suc (suc raw)) = omega arith in rw (same, e.lines) (ap (λ k. record { content = y ∷ content; size = k } ∷ (cut (drop (suc raw) t)).lines) d);
    tail = rw (same, e.lines, e.tail) refl;
  },
)

cut_one : (x : ℕ) (line : Bool) → (x == newline) ≡ line → cut (x ∷ []) ≡ (if line then ended nothing else in_front x 1 nothing)
unfolding cut
cut_one x line l = ap (λ b. if b then ended nothing else in_front x 1 nothing) l

cut_more : (x y : ℕ) (rest : List ℕ) (slash line : Bool) → (x == backslash) ≡ slash → (x == newline) ≡ line
    → cut (x ∷ y ∷ rest) ≡ (if line then ended (cut (y ∷ rest)) else if slash then in_front y 2 (cut rest) else in_front x 1 (cut (y ∷ rest)))
unfolding cut
cut_more x y rest slash line s l =
    ap (λ b. if b then ended (cut (y ∷ rest)) else if x == backslash then in_front y 2 (cut rest) else in_front x 1 (cut (y ∷ rest))) l
    ∙ ap (λ b. if line then ended (cut (y ∷ rest)) else if b then in_front y 2 (cut rest) else in_front x 1 (cut (y ∷ rest))) s

pub cut_none : cut [] ≡ nothing
unfolding cut
cut_none = refl

not_both : (x : ℕ) → (x == backslash) ≡ true → (x == newline) ≡ true → true ≡ false
not_both x s l = grind (arith, nat_tests)

-- the first line of a text of one byte, or of two and more
end_of_one : (x n : ℕ) (slash line : Bool) → (x == backslash) ≡ slash → (x == newline) ≡ line → Ends n (x ∷ []) (size_after false n (x ∷ []))
end_of_one x n true true s l = absurd (true≢false (not_both x s l))
end_of_one x n true false s l = let e = cut_one x false l in rw s (rw e refl, rw e refl)
end_of_one x n false true s l =
    let e = cut_one x true l in
    rw (s, l) (0, [], record { size = omega arith; inside = omega arith; undone = refl; lines = rw (e, cut_none) refl; tail = rw (e, cut_none) refl })
end_of_one x n false false s l = let e = cut_one x false l in rw (s, l) (rw e refl, rw e refl)

end_of_more : (x y n : ℕ) (rest : List ℕ) (slash line : Bool) → (x == backslash) ≡ slash → (x == newline) ≡ line
    → Ends (n + 1 + 1) rest (size_after false (n + 1 + 1) rest) → Ends (n + 1) (y ∷ rest) (size_after false (n + 1) (y ∷ rest))
    → Ends n (x ∷ y ∷ rest) (size_after false n (x ∷ y ∷ rest))
end_of_more x y n rest true true s l two one = absurd (true≢false (not_both x s l))
end_of_more x y n rest true false s l two one =
    let h = front_escaped x y n rest (size_after false (n + 1 + 1) rest) (cut_more x y rest true false s l) s two in rw s h
end_of_more x y n rest false true s l two one =
    let e = cut_more x y rest false true s l in
    rw (s, l) (0, [], record { size = omega arith; inside = omega arith; undone = refl; lines = rw e refl; tail = rw e refl })
end_of_more x y n rest false false s l two one =
    let h = front_taken x n (y ∷ rest) (size_after false (n + 1) (y ∷ rest)) (cut_more x y rest false false s l) s l one in rw (s, l) h

pub ends : (n : ℕ) (text : List ℕ) → Ends n text (size_after false n text)
ends n [] = let e = cut_none in (rw e refl, rw e refl)
ends n (x ∷ []) = end_of_one x n _ _ refl refl
ends n (x ∷ y ∷ rest) = end_of_more x y n rest _ _ refl refl (ends (n + 1 + 1) rest) (ends (n + 1) (y ∷ rest))
