use Rattle.std.proofs.Common.{◌∙◌, List, ap, subst, sym}
use Rattle.std.proofs.lemmas.Result.{IfOk-weaker}
use Rattle.heap_model.specs.declared.entry.Entry.{Entry}
use Rattle.log_merge.specs.FewSets.{HaveFewSets}
use Rattle.log_merge.specs.Merging.{HasOrder}
use Rattle.heap_queue.specs.Effects.{effects_of}
use Rattle.heap_queue.specs.Telling.{effects_in, told_of}
use Rattle.heap_queue.proofs.ToldRuns.{has_order, text_tells_queue}
use Rattle.heap_queue.proofs.run_text.tell_queue.Goals as goal

pub merge-requires-clause-order : goal.merge-requires-clause-order
merge-requires-clause-order c =
    let run = c.requires.ran in
    subst (λ (logs : List (List Entry)). HasOrder c.args.heap logs) (sym c.logs.ensures.logs) (has_order c.args.heap run.0 c.args.ran.now run.1)

pub merge-requires-clause-few : goal.merge-requires-clause-few
merge-requires-clause-few c = subst HaveFewSets (sym c.logs.ensures.logs) c.requires.ran.1.whole.few

pub returns : goal.returns
returns c = λ scripts is.
    let merged = c.in_ok-history in
    let calls = c.in_ok-calls in
    IfOk-weaker c.render_queue.result _ _ (λ text written. text_tells_queue c.args.heap scripts c.args.ran.now is c.requires.board merged.history.items merged.ensures.legal (sym c.logs.ensures.logs ∙ merged.ensures.kept) c.as_slice-2.result.now text.items
    (c.as_slice-2.ensures.value ∙ calls.ensures.told ∙ ap (told_of c.args.heap 0) c.as_slice.ensures.value) (ap effects_in c.as_slice-2.ensures.value ∙ calls.ensures.effects ∙ ap (effects_of c.args.heap 0) c.as_slice.ensures.value) written)
    c.render_queue.ensures
