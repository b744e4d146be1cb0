use Rattle.std.proofs.Common.{List, sym, subst}
use Rattle.heap_model.specs.declared.entry.Entry.{Entry}
use Rattle.heap_model.specs.declared.heap.Heap.{Heap}
use Rattle.heap_model.specs.graph.Legal.{IsObjectLegal}
use Rattle.log_merge.specs.Legal.{AreLegal}
use Rattle.script_text.specs.declared.script.Form.{Form}
use Rattle.script_text.specs.declared.script.Form.TheVariants.{Play, Run}
use Rattle.run_tests.proofs.tests.queue_texts.telling.told_of.Goals as goal

-- entries that are legal in a play or in a run are so for their objects
legal_for_objects : (form : Form) (heap : Heap) (entries : List Entry) → AreLegal form heap entries → IsObjectLegal heap entries
legal_for_objects Play heap entries legal = legal.objects
legal_for_objects Run heap entries legal = legal

pub tell_calls-requires-clause-legal : goal.tell_calls-requires-clause-legal
tell_calls-requires-clause-legal c =
    let history = c.in_ok-history.history in
    subst (IsObjectLegal history.heap) (sym c.as_slice-entries.ensures) (legal_for_objects history.form history.heap history.entries c.in_ok-check.ensures.legal.entries)
