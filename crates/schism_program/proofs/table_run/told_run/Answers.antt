use Rattle.std.proofs.Common.{◌≡◌, List, false, map, sym, ap, subst, ◌∙◌}
use Rattle.std.proofs.lemmas.List.{length-map}
use Rattle.heap_model.specs.Logs.{logs_of}
use Rattle.heap_model.specs.declared.entry.Entry.{Entry}
use Rattle.heap_model.specs.declared.heap.Heap.{Heap}
use Rattle.heap_model.specs.graph.Legal.{IsObjectLegal}
use Rattle.script_text.specs.declared.preamble.Preamble.{Preamble}
use Rattle.script_text.specs.Words.{preamble_of}
use Rattle.reply_text.specs.declared.history.History.{History}
use Rattle.heap_table.specs.Known.{CollectorKnown}
use Rattle.heap_table.specs.SeatHeld.{SeatHeld}
use Rattle.log_merge.specs.FewSets.{HaveFewSets}
use Rattle.locked_heap.specs.Given.{IsSeatScript}
use Rattle.collector_turns.specs.Collector.{CollectorValue}
use Rattle.heap_runs.specs.Finishing.{HasLogs}
use Rattle.heap_runs.specs.SeatWork.{HaveWorked}
use Rattle.heap_runs.proofs.OpenedSeats.{holders_are_all_seats, seats_may_run}
use Rattle.schism_program.specs.Running.{merged_history, IsRunOf, IsOfTable}
use Rattle.schism_program.proofs.SeatScripts.{items, handed_script_is_seats, seat_commands_are_script, scripts_are_one_each}
use Rattle.schism_program.proofs.TableRuns.{logs_have_few_sets, merged_is_run_of_script, merged_is_of_table, opened_holders_told_none}
use Rattle.schism_program.proofs.table_run.told_run.Goals as goal

pub run_seats-requires-clause-may : goal.run_seats-requires-clause-may
run_seats-requires-clause-may g c κs within =
    let script = c.args.script.now in
    let made = c.in_ok-holders in
    let scripts = c.as_slice.result.now in
    let handed = ap (map items) c.as_slice.ensures.value ∙ c.in_ok-scripts.ensures in
    seats_may_run script.heap (map items scripts) made.collector made.holders.items made.ensures.heap made.ensures.numbers made.ensures.each c.in_ok-seats.seats.items c.make-collector.result c.in_ok-seats.ensures c.make-collector.ensures
    (length-map scripts items ∙ scripts_are_one_each scripts script handed)
    (λ number below.
    let short = subst IsSeatScript (sym (handed_script_is_seats scripts script number below handed)) (seat_commands_are_script number script c.requires.form) in
    (short.few, short.each))

pub merge-requires-clause-order : goal.merge-requires-clause-order
merge-requires-clause-order g c =
    let one = c.in_ok-closed.ensures.unused.one in
    let heap_is = c.in_ok-closed.ensures.of_heap ∙ ap (λ (v : CollectorValue). v.holder.heap) c.make-collector.ensures ∙ c.in_ok-holders.ensures.heap in
    record {
      history = one.history;
      legal = subst (λ (h : Heap). IsObjectLegal h one.history) heap_is one.legal.objects;
      kept = c.logs.ensures.logs ∙ one.logs_are ∙ ap (λ (h : Heap). logs_of h one.history) heap_is;
    }

pub merge-requires-clause-few : goal.merge-requires-clause-few
merge-requires-clause-few g c =
    let script = c.args.script.now in
    let made = c.in_ok-holders in
    let scripts = c.as_slice.result.now in
    let handed = ap (map items) c.as_slice.ensures.value ∙ c.in_ok-scripts.ensures in
    let ran = c.in_ok-closed.ensures in
    let closed = c.in_ok-closed.field-0.closed in
    let heap_is = ran.of_heap ∙ ap (λ (v : CollectorValue). v.holder.heap) c.make-collector.ensures ∙ made.ensures.heap in
    let no_log = ap (λ (v : CollectorValue). v.holder.known.collector.log) c.make-collector.ensures ∙ ap (λ (k : CollectorKnown). k.collector.log) made.ensures.known in
    let logs = subst (λ (l : List Entry). HasLogs ran.worked l closed) no_log ran.logs in
    let worked = subst (λ (l : List SeatHeld). HaveWorked c.args.patience (map items scripts) l ran.worked) c.in_ok-seats.ensures ran.have_worked in
    let many = holders_are_all_seats script.heap (map items scripts) made.collector made.holders.items made.ensures.heap made.ensures.numbers made.ensures.each in
    let none = opened_holders_told_none made.collector.table script.heap made.holders.items made.ensures.each in
    subst HaveFewSets (sym c.logs.ensures.logs)
    (logs_have_few_sets c.args.patience (map items scripts) script closed made.holders.items ran.worked heap_is ran.unused logs made.ensures.numbers many none worked (λ number below.
    (subst IsSeatScript (sym (handed_script_is_seats scripts script number below handed)) (seat_commands_are_script number script c.requires.form)).few))

pub returns : goal.returns
returns g c =
    let script = c.args.script.now in
    let made = c.in_ok-holders in
    let scripts = c.as_slice.result.now in
    let handed = ap (map items) c.as_slice.ensures.value ∙ c.in_ok-scripts.ensures in
    let ran = c.in_ok-closed.ensures in
    let closed = c.in_ok-closed.field-0.closed in
    let merged = c.in_ok-entries in
    let heap_is = ran.of_heap ∙ ap (λ (v : CollectorValue). v.holder.heap) c.make-collector.ensures ∙ made.ensures.heap in
    let kept = sym c.logs.ensures.logs ∙ merged.ensures.kept in
    let no_log = ap (λ (v : CollectorValue). v.holder.known.collector.log) c.make-collector.ensures ∙ ap (λ (k : CollectorKnown). k.collector.log) made.ensures.known in
    let logs = subst (λ (l : List Entry). HasLogs ran.worked l closed) no_log ran.logs in
    let worked = subst (λ (l : List SeatHeld). HaveWorked c.args.patience (map items scripts) l ran.worked) c.in_ok-seats.ensures ran.have_worked in
    let many = holders_are_all_seats script.heap (map items scripts) made.collector made.holders.items made.ensures.heap made.ensures.numbers made.ensures.each in
    let told : c.history_of-history.result ≡ merged_history (preamble_of script) merged.entries.items = c.history_of-history.ensures ∙ ap (λ (f : Preamble). merged_history f merged.entries.items) c.preamble.ensures in
    let none = opened_holders_told_none made.collector.table script.heap made.holders.items made.ensures.each in
    record {
      ran = subst (IsRunOf false script) (sym told)
          (merged_is_run_of_script c.args.patience (map items scripts) script closed merged.entries.items made.holders.items ran.worked heap_is merged.ensures.legal kept ran.unused logs made.ensures.numbers many none worked
          (λ number below. handed_script_is_seats scripts script number below handed));
      tabled = subst (λ (h : History). IsOfTable h closed) (sym told)
          (merged_is_of_table c.args.patience (map items scripts) script closed merged.entries.items made.holders.items ran.worked heap_is merged.ensures.legal kept ran.unused logs made.ensures.numbers many none worked);
    }
