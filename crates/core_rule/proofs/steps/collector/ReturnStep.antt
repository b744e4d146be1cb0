-- The collector returns the spine words of a group's arrays that it has freed: that keeps the rule.
use Rattle.std.proofs.Common.{◌≡◌, ℕ, ◌+◌, ◌-◌, ◌%◌, ◌^◌, ◌<◌, false, List, [], ◌∷◌, ◌++◌, inr, refl, sym, ap, ◌∙◌, subst, arith}
use Rattle.core_rule.proofs.Terms.{cycle_phases, Entry, Returns, Heap, IsLegal, graph_of, phase, words_returned, begins_cycle, since_cycle, Graph, opening, graph_seat, Collector}
use Rattle.core_rule.proofs.Terms.{IsReturning, Stage, Budget, State, seat_at, at, Book, SweepCounts, dead_sum, words_of_object, nodes_in, returning, MarkingStands, node_at}
use Rattle.core_rule.proofs.Terms.{CollectorAgrees, Rule, HeapStands, SeatStands, AreFreed, SweepStands}
use Rattle.heap_model.specs.PhasePlan.{sweep as sweep_phase}
use Rattle.heap_model.proofs.Histories.{graph_after-more, total-more}
use Rattle.heap_model.proofs.account_lemmas.Windows.{after_last-no}
use Rattle.core_machine.specs.collector.FitsTurns.{FitsStage}
use Rattle.core_machine.specs.collector.Sweeping.{after_swept}
use Rattle.core_machine.specs.declared.collector.stage.Stage.TheVariants as stages
use Rattle.core_machine.proofs.table_lemmas.Addresses.{at-put_same}
use Rattle.core_rule.proofs.cycle.CycleHistory.{heap_in_cycle_after_entry, seat_in_cycle_after_other}
use Rattle.core_rule.proofs.entries.Legality.{legal_after_entry, keeps_space_of_returns}
use Rattle.core_rule.proofs.entries.ToldTurns.{collector_agrees_after_entry}
use Rattle.core_rule.proofs.book.BookGoing.{book_goes_on_with_history}
use Rattle.core_rule.proofs.frames.BudgetWritten.{budget_words, budget_words_leave_places, heap_stands_after_budget, seat_stands_after_budget}
use Rattle.core_rule.proofs.frames.EntryFrames.{same_fragments_of_itself, heap_stands_after_entry, other_seat_stands_after_entry}
use Rattle.core_rule.proofs.frames.SeatFrames.{with_entry}
use Rattle.heap_model.proofs.graph_changes.Shapes.{SameNodes, same_nodes_of_equal}
use Rattle.core_rule.proofs.marking.SweepMarks.{after_swept_either, marking_stands_after_swept}
use Rattle.core_rule.proofs.budgets.BudgetFrames.{granted_words_stay}
use Rattle.core_rule.proofs.budgets.BudgetSteps.{budget_word_is_small, fallen_budget_fits_word}
use Rattle.core_rule.proofs.spines.SpineFrames.{same_kept_of_itself}
use Rattle.core_rule.proofs.dying.SweptSpace.{CopiesNone, Sweeps, space_stands_after_sweep}
use Rattle.core_rule.proofs.steps.TurnSteps.{StageKeeps, keeps_rule_after_turn}
use Rattle.core_rule.proofs.steps.TurnKinds.{TurnKind, inside_after_swept, adds_one, returns_steps_in_phase, beside, stage_keeps_whole, on_bits_of_same_bits, on_spines_beside, has_looked_at_stage}
use Rattle.core_rule.proofs.turns.SweepTurns.{return_leaves_fewer}

module _ (heap : Heap) (state : State) (book : Book) (rule : Rule heap state book) (group counted : ℕ) (returns : state.collector.stage ≡ stages.Returning group counted) where
  fits : IsReturning heap state.collector.phase state.collector.looked group counted
  fits = subst (FitsStage heap state.collector.phase state.collector.looked) returns rule.machine.collector_fit.at_stage

  told : AreFreed book.owner (group + 1)
  told = subst (SweepStands heap book.owner book.colour state.collector.phase) returns rule.marks_stand.heap_marks.sweep_stands

  sweeps : phase book.history % cycle_phases ≡ sweep_phase
  sweeps = ap (λ p. p % cycle_phases) (sym rule.collector_stands.phase_told) ∙ fits.sweeps.for_sweep

  -- the words that are about to be returned count as granted
  about : returning state.collector.stage ≡ counted
  about = rw returns refl

  abbrev found : ℕ
  found = at heap state.words Budget

  abbrev word : ℕ
  word = (found + 2 ^ 64 - counted) % 2 ^ 64

  abbrev words : List ℕ
  words = budget_words heap state book rule word

  abbrev entry : Entry
  entry = Returns counted

  abbrev later : Book
  later = with_entry book entry

  fallen : at heap words Budget + counted ≡ found
  fallen = omega (
    arith,
    at-put_same heap state.words Budget word rule.machine.table tt,
    fallen_budget_fits_word found counted (budget_word_is_small heap state book rule.machine rule.space.budgets) (omega (arith, rule.space.budgets.word, about)),
  )

  graph : graph_of heap later.history ≡ graph_of heap book.history
  graph = graph_after-more (opening heap) book.history entry

  nodes : SameNodes (graph_of heap book.history) (graph_of heap later.history)
  nodes = same_nodes_of_equal (graph_of heap book.history) (graph_of heap later.history) graph

  legal : IsLegal heap false later.history
  legal = legal_after_entry heap false book.history entry rule.heap_stands.legal tt
      (keeps_space_of_returns heap false book.history counted (sweeps, omega (arith, fits.some_words), omega (arith, rule.space.budgets.told, about)))

  heap_returns : HeapStands heap words later
  heap_returns =
      let stands = heap_stands_after_budget heap state book rule word in
      heap_stands_after_entry heap words words (same_fragments_of_itself heap words) book entry nodes record { taken = refl; given = refl; freed = refl } legal
      (heap_in_cycle_after_entry heap words book.owner book.colour book.history entry refl book.fragments stands.cycle) stands

  seat_returns : (r : ℕ) → r < heap.seats → SeatStands heap words later r (seat_at state r)
  seat_returns r below =
      let stands = seat_stands_after_budget heap state book rule word r below in
      other_seat_stands_after_entry heap words words (same_fragments_of_itself heap words) book entry nodes r (seat_at state r) refl (ap (λ (g : Graph). graph_seat g r) graph)
      (seat_in_cycle_after_other heap words book.owner book.colour book.history entry refl r (seat_at state r) stands.cycle refl) stands

  -- the collector with its entry
  abbrev returned : Collector
  returned = record state.collector { stage = after_swept heap group; log = state.collector.log ++ entry ∷ [] }

  agrees : CollectorAgrees heap returned later.history
  agrees = collector_agrees_after_entry heap book.history state.collector (after_swept heap group) (entry) refl refl refl (λ number. refl) rule.collector_stands

  marks : MarkingStands heap words book.owner book.colour book.fragments state.collector.phase (after_swept heap group)
  marks = marking_stands_after_swept heap words book.owner book.colour book.fragments state.collector.phase fits.sweeps.for_sweep (rule.marks_stand.heap_marks.after (inr (inr fits.sweeps.for_sweep))) group told

  -- what holds of both stages that may come next
  next : (P : Stage → Type 0) → P (stages.Sweeping (group + 1)) → P stages.Advancing → P (after_swept heap group)
  next P on end = after_swept_either P heap group on (λ last. end)

  was_none : CopiesNone state.collector.stage
  was_none = subst CopiesNone (sym returns) tt

  none_next : CopiesNone (after_swept heap group)
  none_next = next CopiesNone tt tt

  -- so many words are returned
  sweeps_on : Sweeps heap state book rule fits.sweeps.for_sweep was_none (after_swept heap group) none_next words (budget_words_leave_places heap state book rule word) returned.log later.history graph book.owner
      (same_kept_of_itself book.owner) counted
  sweeps_on =
      let none = next (λ stage. returning stage ≡ 0) refl refl in
      let same = ap (λ (g : Graph). dead_sum heap (words_of_object (node_at g book.made)) book.owner) graph in
      record {
        less = omega (arith, about, none, same);
        budget = fallen;
        granted = granted_words_stay book.history entry refl;
        told = total-more (λ e. e.returned) book.history entry;
        in_cycle = ap words_returned (after_last-no begins_cycle book.history entry refl) ∙ total-more (λ e. e.returned) (since_cycle book.history) entry;
        counts = next (SweepCounts (words_of_object (nodes_in heap later)) book.owner) tt tt;
      }

pub return_keeps : (group counted : ℕ) → StageKeeps (stages.Returning group counted)
return_keeps group counted heap state book rule returns machine =
    let fits = fits heap state book rule group counted returns in
    let entry : Entry = Returns counted in
    let later : Book = with_entry book entry in
    keeps_rule_after_turn heap state book (words heap state book rule group counted returns) (returned heap state book rule group counted returns) later (entry ∷ []) rule machine refl
    (heap_returns heap state book rule group counted returns)
    (λ r below stands. seat_returns heap state book rule group counted returns r below)
    (agrees heap state book rule group counted returns)
    record { heap_marks = marks heap state book rule group counted returns; roots = λ r below is. absurd (omega (arith, is.phase, fits.sweeps.for_sweep)) }
    (space_stands_after_sweep heap state book rule fits.sweeps.for_sweep (was_none heap state book rule group counted returns) _ (none_next heap state book rule group counted returns) _ _ _ _
    (graph heap state book rule group counted returns) book.owner (same_kept_of_itself book.owner) counted (sweeps_on heap state book rule group counted returns))
    (book_goes_on_with_history heap state book later.history book.begun)

-- all that is asked of it
pub turn_kind_of_returning : (group : ℕ) (counted : ℕ) → TurnKind (stages.Returning group counted)
turn_kind_of_returning group counted = record {
  keeps = stage_keeps_whole (stages.Returning group counted) (return_keeps group counted);
  fewer = λ few. return_leaves_fewer group counted;
  inside = λ heap state book rule cycle is. inside_after_swept heap state book rule cycle group;
  shape = λ heap collector found. adds_one (stages.Returning group counted) (Returns counted) (returns_steps_in_phase heap counted) refl refl;
  looked = has_looked_at_stage (stages.Returning group counted) (λ heap phase looked fits. fits.sweeps.all);
  bits = on_bits_of_same_bits (stages.Returning group counted) (λ heap collector. beside (λ g below e. omega (arith, e, below)));
  spines = on_spines_beside (stages.Returning group counted) (λ heap collector. tt);
}
