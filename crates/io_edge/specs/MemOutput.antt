-- What a sink in memory holds.
use Rattle.std.specs.Prelude.{ℕ, List}

-- what a sink in memory holds
pub record MemOutput : Type 0 where
  -- the bytes that were taken
  pub taken : List ℕ
  -- how many more fit
  pub room : ℕ
  -- the most that a call takes
  pub piece : ℕ
  -- which calls fail
  pub fails : List ℕ
  -- how many calls there were
  pub calls : ℕ
  -- how many failed
  pub faults : ℕ
