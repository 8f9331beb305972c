-- A clock that is asked once a block.
use Rattle.std.specs.Prelude.{ℕ, zero, suc, List, [], ◌∷◌}
use Rattle.cache_outside.specs.Clocks.{first_time, times_after}

-- the coming times of a clock that was asked n times
abbrev pub times_asked : ℕ → List ℕ → List ℕ
times_asked zero times = times
times_asked (suc n) times = times_asked n (times_after times)

-- the first n answers of a clock with these coming times
abbrev pub first_times : ℕ → List ℕ → List ℕ
first_times zero times = []
first_times (suc n) times = first_time times ∷ first_times n (times_after times)
