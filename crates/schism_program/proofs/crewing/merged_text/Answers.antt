use Rattle.std.proofs.Common.{◌≡◌, ◌∙◌, ap, subst, sym}
use Rattle.std.proofs.lemmas.Result.{IfOk-weaker}
use Rattle.heap_model.specs.Logs.{logs_of}
use Rattle.heap_model.specs.declared.heap.Heap.{Heap}
use Rattle.heap_model.specs.graph.Legal.{IsObjectLegal}
use Rattle.log_merge.specs.FewSets.{HaveFewSets}
use Rattle.script_text.specs.Text.{text_of}
use Rattle.script_crew.specs.CrewText.{crew_preamble}
use Rattle.reply_text.specs.declared.history.History.{History}
use Rattle.reply_text.specs.History.{history_lines}
use Rattle.schism_program.specs.Running.{merged_history}
use Rattle.schism_program.proofs.MergedLogs.{merged_is_legal}
use Rattle.schism_program.proofs.crewing.merged_text.Goals as goal

pub merge-requires-clause-order : goal.merge-requires-clause-order
merge-requires-clause-order c =
    let one = c.requires.unused.one in
    record {
      history = one.history;
      legal = subst (λ (h : Heap). IsObjectLegal h one.history) c.requires.of_heap one.legal.objects;
      kept = c.logs.ensures.logs ∙ one.logs_are ∙ ap (λ (h : Heap). logs_of h one.history) c.requires.of_heap;
    }

pub merge-requires-clause-few : goal.merge-requires-clause-few
merge-requires-clause-few c = subst HaveFewSets (sym c.logs.ensures.logs) c.requires.few

pub returns : goal.returns
returns c =
    let front = crew_preamble c.args.heap in
    let closed = c.args.closed.now in
    let merged = c.in_ok-entries in
    let kept = sym c.logs.ensures.logs ∙ merged.ensures.kept in
    let told : c.history_of.result ≡ merged_history front merged.entries.items = c.history_of.ensures in
    IfOk-weaker c.render_history.result _ _
    (λ text written. record {
      entries = merged.entries.items;
      legal = merged_is_legal front closed merged.entries.items c.requires.of_heap merged.ensures.legal kept c.requires.unused;
      tabled = record { heap_is = c.requires.of_heap; logs_are = kept; unused = c.requires.unused };
      rendered = written ∙ ap (λ (h : History). text_of (history_lines h)) told;
    })
    c.render_history.ensures.text
