-- What a source in memory holds.
use Rattle.std.specs.Prelude.{ℕ, List}

-- what a source in memory holds
pub record MemInput : Type 0 where
  -- the bytes that are left
  pub left : List ℕ
  -- the most that a call gives
  pub piece : ℕ
  -- which calls fail
  pub fails : List ℕ
  -- how many calls there were
  pub calls : ℕ
  -- how many failed
  pub faults : ℕ
