use Rattle.std.proofs.Common.{◌≡◌, ℕ, ◌+◌, ◌<◌, List, length, get_or, take, sym, ap, subst, ◌∙◌}
use Rattle.std.proofs.lemmas.List.{take_all, take_more}
use Rattle.heap_model.specs.declared.heap.Heap.{Heap}
use Rattle.heap_model.specs.declared.entry.Entry.{Entry}
use Rattle.heap_model.specs.account.Cycles.{graph_of}
use Rattle.heap_model.specs.graph.Graph.{Graph, opening}
use Rattle.heap_model.specs.graph.Growth.{after_entry}
use Rattle.heap_model.specs.graph.Legal.{Accepts, IsObjectLegal}
use Rattle.heap_model.proofs.Histories.{graph_after-more, AcceptsAll-more}
use Rattle.library_tests.proofs.tests.merges.accept.Goals as goal

-- the front of the entries with one more, which the graph of the front accepts
longer_front_is_accepted : (heap : Heap) (entries : List Entry) (i : ℕ) (none : Entry) (old new : Graph) → i < length entries → old ≡ graph_of heap (take i entries) → IsObjectLegal heap (take i entries)
    → Accepts old (get_or entries i none) → new ≡ after_entry old (get_or entries i none) → (new ≡ graph_of heap (take (i + 1) entries)) × IsObjectLegal heap (take (i + 1) entries)
longer_front_is_accepted heap entries i none old new within front legal accepts grown =
    let e = get_or entries i none in
    let before = take i entries in
    let more = sym (take_more entries i none within) in (
      grown ∙ ap (λ g. after_entry g e) front ∙ sym (graph_after-more (opening heap) before e) ∙ ap (graph_of heap) more,
      subst (IsObjectLegal heap) more (AcceptsAll-more (opening heap) before e legal (subst (λ g. Accepts g e) front accepts)),
    )

pub loop-entry-preserved : goal.loop-entry-preserved
loop-entry-preserved c =
    let front = c.loop-entry.invariant in
    let more = longer_front_is_accepted c.args.heap c.args.entries.now c.loop-entry.entry-index _ c.loop-entry.graph c.apply.new.self c.loop-entry-test.true front.grown front.legal c.in_ok-apply.ensures.accepted c.in_ok-apply.ensures.grown in
    record { grown = more.0; legal = more.1 }

pub returns : goal.returns
returns c = subst (IsObjectLegal c.args.heap) (take_all c.loop-entry.entry-index c.args.entries.now c.loop-entry-test.false) c.loop-entry.invariant.legal
