-- All that is asked of a kind of step of a seat, in one record for its point.
use Rattle.std.proofs.Common.{ℕ}
use Rattle.core_machine.proofs.Terms.{Point, Step}
use Rattle.core_machine.proofs.call_lemmas.Stages.{PointLeadsAlone}
use Rattle.core_machine.proofs.moves.Standing.{PointStands}
use Rattle.core_machine.proofs.own_stages.Leading.{PointLeads}

pub record PointKind (point : Point) : Type 1 where
  -- the move that is due there stands, whatever the words are
  pub stands : PointStands point
  -- what it leads to by the seat's own view, however much is told of each word
  pub leads : (tells : Step → ℕ → Type 0) → PointLeads tells point
  -- and where the call is made by itself
  pub alone : PointLeadsAlone point
