-- The generator that scripts are made by: a linear congruence of 31 bits, of which a draw shows the upper 15.
use Rattle.std.specs.Prelude.{ℕ, zero, suc, ◌+◌, ◌*◌, ◌/◌, ◌%◌, ◌^◌}

-- the state after a draw
unfoldable pub next_state : ℕ → ℕ
next_state state = (1103515245 * state + 12345) % 2 ^ 31

-- the state after so many draws
abbrev pub state_after_draws : ℕ → ℕ → ℕ
state_after_draws zero state = state
state_after_draws (suc n) state = next_state (state_after_draws n state)

-- what the draw of this position gives, counted from 1
abbrev pub draw : ℕ → ℕ → ℕ
draw position state = state_after_draws position state / 65536
