use Rattle.std.proofs.Common.{take}
use Rattle.heap_model.specs.graph.Reach.{IsRegistered}
use Rattle.heap_model.proofs.graph_lemmas.NoteLemmas.{HasNoted}
use Rattle.heap_model.proofs.graph.reach.search.Search.note_seat.Given as goal

abbrev pub invariant-loop-register : goal.invariant-loop-register
invariant-loop-register l = HasNoted (λ register. register.value) (IsRegistered l.seat) l.initial.self l.self (take l.register-index l.register-items)
