-- Sums over the numbers below a bound.
use Rattle.std.specs.Prelude.{ℕ, zero, suc, ◌+◌}

-- f 0 + f 1 + .. + f (n - 1)
unfoldable pub sum_upto : ℕ → (ℕ → ℕ) → ℕ
sum_upto zero f = 0
sum_upto (suc n) f = sum_upto n f + f n
