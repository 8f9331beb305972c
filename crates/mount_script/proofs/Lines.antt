-- The first line of a text.
use Rattle.std.proofs.Common.{◌≡◌, ℕ, zero, suc, ◌<◌, ◌-◌, ◌∙◌, ap, refl, arith, Bool, true, false, List, [], ◌∷◌, length, take, drop, length-drop}
use Rattle.std.proofs.lemmas.List.{take_all, drop_all}
use Rattle.std.specs.Prelude.{◌==◌, if◌then◌else◌}
use Rattle.std.specs.List.{onto_first}
use Rattle.memchr.specs.Find.{Nowhere, Passes, is_byte}
use Rattle.mount_script.specs.Scripts.{lines_of}

abbrev newline : List ℕ → ℕ → Type 0
newline = Passes (is_byte 10)

-- none in the list is none behind its first byte
none_behind : (x : ℕ) (s : List ℕ) (k : ℕ) → Nowhere (newline (x ∷ s)) 0 (suc k) → Nowhere (newline s) 0 k
none_behind x s k none = λ j low high is. none (suc j) (omega arith) (omega arith) is

-- a first byte that is no newline
not_first : (x : ℕ) (s : List ℕ) (k : ℕ) → Nowhere (newline (x ∷ s)) 0 (suc k) → (x == 10) ≡ false
not_first x s k none = by_case (x == 10) (none 0 (omega arith) (omega arith))
  where
    by_case : (b : Bool) → ¬ (b ≡ true) → b ≡ false
    by_case true h = absurd (h refl)
    by_case false h = refl

chosen : (b : Bool) (x y : List (List ℕ)) → b ≡ false → (if b then x else y) ≡ y
chosen b x y e = rw e refl

taken : (b : Bool) (x y : List (List ℕ)) → b ≡ true → (if b then x else y) ≡ x
taken b x y e = rw e refl

-- the first line ends at the first newline
pub line_at : (s : List ℕ) (k : ℕ) → k < length s → Nowhere (newline s) 0 k → newline s k → lines_of s ≡ take k s ∷ lines_of (drop (suc k) s)
line_at [] k h none is = absurd (omega arith)
line_at (x ∷ s) zero h none is = taken (x == 10) ([] ∷ lines_of s) (onto_first x (lines_of s)) is
line_at (x ∷ s) (suc k) h none is =
    chosen (x == 10) ([] ∷ lines_of s) (onto_first x (lines_of s)) (not_first x s k none) ∙ ap (onto_first x) (line_at s k (omega arith) (none_behind x s k none) is)

-- without a newline the text is one line
pub one_line : (x : ℕ) (s : List ℕ) → Nowhere (newline (x ∷ s)) 0 (suc (length s)) → lines_of (x ∷ s) ≡ (x ∷ s) ∷ []
one_line x [] none = chosen (x == 10) ([] ∷ []) (onto_first x []) (not_first x [] 0 none)
one_line x (y ∷ s) none =
    let no : Nowhere (newline (y ∷ s)) 0 (suc (length s)) = none_behind x (y ∷ s) (suc (length s)) none in
    chosen (x == 10) ([] ∷ lines_of (y ∷ s)) (onto_first x (lines_of (y ∷ s))) (not_first x (y ∷ s) (suc (length s)) none) ∙ ap (onto_first x) (one_line y s no)

-- all that stands behind a place
pub behind : (s : List ℕ) (k : ℕ) → take (length s - k) (drop k s) ≡ drop k s
behind s k = take_all (length s - k) (drop k s) (omega (arith, length-drop k s))

pub whole : (s : List ℕ) → 0 < length s → Nowhere (newline s) 0 (length s) → lines_of s ≡ s ∷ lines_of (drop (length s) s)
whole [] h none = absurd (omega arith)
whole (x ∷ s) h none = rw (drop_all (suc (length s)) (x ∷ s) (omega arith)) (one_line x s none)
