-- The generator of numbers.
use Rattle.std.specs.Prelude.{ℕ, zero, suc, ◌+◌, ◌*◌, ◌/◌, ◌%◌, ◌^◌}

-- the state after a state, both of 64 bits
abbrev pub step : ℕ → ℕ
step x = (x * 6364136223846793005 + 1442695040888963407) % 2 ^ 64

-- the state after n steps from a seed
abbrev pub state : ℕ → ℕ → ℕ
state seed zero = seed
state seed (suc n) = step (state seed n)

-- what a step to this state draws: a number below `bound`
abbrev pub drawn : ℕ → ℕ → ℕ
drawn x bound = (x / 2 ^ 33) % bound

-- draw number n, from 0, of those from a seed
abbrev pub draw : ℕ → ℕ → ℕ → ℕ
draw seed n bound = drawn (state seed (n + 1)) bound
