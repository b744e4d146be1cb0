use Rattle.std.proofs.Common.{rules, refl, inl, inr}
use Rattle.io_edge.proofs.mem_sink.MemSinkSink.write.Goals as goal
use Rattle.io_edge.proofs.mem_sink.MemSinkSink.write.Goals.{then-room-eq0-via-then-room-eq0, then-room-eq0-via-else-room-eq0+then-contains}

pub returns-then-room-eq0-clause-planned : goal.returns-then-room-eq0-clause-planned
returns-then-room-eq0-clause-planned c = (
  λ _. elim c.then-room-eq0.branch [
    | then-room-eq0-via-then-room-eq0 w ↦ inr (search rules)
    | then-room-eq0-via-else-room-eq0+then-contains w ↦ inl (search rules)
  ],
  λ _. refl,
)
