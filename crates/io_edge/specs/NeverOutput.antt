-- What a sink that never fails holds.
use Rattle.std.specs.Prelude.{ℕ, List, Option}

-- what a sink that never fails holds
pub record NeverOutput : Type 0 where
  -- the bytes that were taken, as long as all of them fitted
  pub taken : Option (List ℕ)
  -- how many more fit
  pub room : ℕ
