use Rattle.heap_model.specs.graph.Reach.{IsRegistered}
use Rattle.heap_model.specs.graph.Marking.{IsFound}
use Rattle.heap_model.proofs.graph_lemmas.NoteLemmas.{has_noted_next, register_lead_is_registered, All-taken}
use Rattle.heap_model.proofs.graph.reach.search.Search.note_seat.Goals as goal

pub loop-register-preserved : goal.loop-register-preserved
loop-register-preserved c =
    has_noted_next (λ register. register.value) (IsRegistered c.args.seat.now) c.registers-register-items.result.now c.loop-register.register-index _ c.loop-register-test.true
    (register_lead_is_registered c.args.seat.now c.registers-register-items.result.now c.loop-register.register-index _ c.registers-register-items.ensures c.loop-register-test.true) c.loop-register.invariant c.note.ensures.goes_on c.note.ensures.found

pub returns-clause-found : goal.returns-clause-found
returns-clause-found c =
    All-taken (λ register. IsFound c.loop-register.self.marks register.value) _ _ c.loop-register.register-index c.registers-register-items.ensures c.loop-register-test.false c.loop-register.invariant.found
