-- The coming times of a clock, in milliseconds.
use Rattle.std.specs.Prelude.{ℕ, List, [], ◌∷◌, Option}

pub record ClockView : Type 0 where
  pub times : Option (List ℕ)  -- the coming times, where it tells

-- what a clock with these coming times answers: the first, or 0 where there is none
abbrev pub first_time : List ℕ → ℕ
first_time [] = 0
first_time (t ∷ ts) = t

-- the coming times after an answer: the first is dropped where another follows
abbrev pub times_after : List ℕ → List ℕ
times_after [] = []
times_after (t ∷ []) = t ∷ []
times_after (t ∷ u ∷ ts) = u ∷ ts
