-- What is read of a script's text.
use Rattle.std.specs.Prelude.{ℕ, ◌≡◌, ◌≤◌, List, length, take, drop, Option, option_map, IfSome}

-- at most this many first bytes were taken off what was left, where it is told
pub record TookAtMost (most : ℕ) (before now : Option (List ℕ)) : Type 0 where
  pub count : ℕ
  pub few : count ≤ most
  pub left : now ≡ option_map (drop count) before

-- one byte more than a script may have
abbrev pub most_read : ℕ
most_read = 1048577

-- the text up to its end, or to the first byte that a script may not have
abbrev pub IsRead : Option (List ℕ) → List ℕ → Type 0
IsRead left text = IfSome left (λ bytes. text ≡ take most_read bytes)

-- the first bytes of a buffer are as many first bytes of a text, and the rest of the text is left
pub record Filled (count : ℕ) (text left : Option (List ℕ)) (buffer : List ℕ) : Type 0 where
  pub rest : left ≡ option_map (drop count) text
  pub front : IfSome text (λ bytes. (take count buffer ≡ take count bytes) × (count ≤ length bytes))
