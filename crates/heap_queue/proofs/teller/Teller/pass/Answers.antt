use Rattle.std.proofs.Common.{ap, ◌∙◌}
use Rattle.heap_model.specs.graph.Growth.{after_entry}
use Rattle.heap_queue.proofs.TellingSteps.{done_goes_on, told_goes_on}
use Rattle.heap_queue.proofs.teller.Teller.pass.Goals as goal

pub returns-clause-told : goal.returns-clause-told
returns-clause-told c = λ heap history rest before.
    told_goes_on _ _ c.args.self.now.graph _ _ _ c.args.entry.now rest _ c.in_ok-note.ensures.calls
    (c.in_ok-grow.ensures ∙ ap (λ g. after_entry g c.args.entry.now) c.note.ensures.graph) c.in_ok-note.ensures.places before

pub returns-clause-done : goal.returns-clause-done
returns-clause-done c = λ heap history rest before.
    done_goes_on _ _ c.args.self.now.graph _ _ _ c.args.entry.now rest _ c.in_ok-note.ensures.effects
    (c.in_ok-grow.ensures ∙ ap (λ g. after_entry g c.args.entry.now) c.note.ensures.graph) c.in_ok-note.ensures.places before
