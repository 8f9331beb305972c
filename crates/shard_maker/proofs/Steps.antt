-- A step of the generator by wrapping arithmetic.
use Rattle.std.proofs.Common.{◌≡◌, ◌∙◌, ◌+◌, ◌*◌, ◌%◌, sym, ap, arith, add-one, ℕ}
use Rattle.std.specs.Prelude.{◌^◌, ◌==◌}
use Rattle.shard_maker.specs.Draws.{step, state, drawn, draw}
use Rattle.shard_maker.specs.MadeRows.{is_had}

pub wraps : (y c : ℕ) → (y % 2 ^ 64 + c) % 2 ^ 64 ≡ (y + c) % 2 ^ 64
wraps y c = omega arith

pub step_is : (x : ℕ) → ((x * 6364136223846793005) % 2 ^ 64 + 1442695040888963407) % 2 ^ 64 ≡ (x * 6364136223846793005 + 1442695040888963407) % 2 ^ 64
step_is x = wraps (x * 6364136223846793005) 1442695040888963407

pub state_next : (seed n : ℕ) → state seed (n + 1) ≡ step (state seed n)
state_next seed n = ap (state seed) (add-one n)

-- whether a pair is had, by what was drawn
pub had_is : (seed n x y result : ℕ) → x ≡ state seed n → y ≡ step x → result ≡ drawn y 16 → is_had seed n ≡ (result == 0)
had_is seed n x y result e f g = ap (λ s. drawn s 16 == 0) (state_next seed n ∙ ap step (sym e) ∙ sym f) ∙ ap (λ r. r == 0) (sym g)

-- a step from the state behind n draws, and what it draws
pub next_state : (from n x y : ℕ) → x ≡ state from n → y ≡ step x → y ≡ state from (n + 1)
next_state from n x y e f = f ∙ ap step e ∙ sym (state_next from n)

pub draw_is : (from n y bound result : ℕ) → y ≡ state from (n + 1) → result ≡ drawn y bound → result ≡ draw from n bound
draw_is from n y bound result e f = f ∙ ap (λ s. drawn s bound) e
