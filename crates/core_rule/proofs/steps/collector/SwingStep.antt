-- An array swings to the collector's copy of its spine: that keeps the rule.
use Rattle.std.specs.Option.{IsSomeAnd}
use Rattle.std.proofs.Common.{◌≡◌, ◌%◌, true, false, List, [], ◌∷◌, ◌++◌, length, Some, inl, refl, sym, ap, ◌∙◌, subst, arith}
use Rattle.core_rule.proofs.Terms.{cycle_phases, Entry, Heap, IsLegal, graph_of, phase, Graph, Node, node, turn_at, State, Book, id_at, node_at, CollectorAgrees, Rule, Swings}
use Rattle.heap_model.specs.PhasePlan.{copying as copying_phase}
use Rattle.heap_words.specs.declared.spot.Spot.{Spot}
use Rattle.heap_model.specs.account.Sweep.{IsArray, HasSwung}
use Rattle.core_machine.specs.declared.collector.stage.Copying.TheVariants.{Swinging}
use Rattle.core_machine.specs.declared.collector.stage.SpineCopy.{SpineCopy}
use Rattle.core_machine.specs.declared.collector.stage.Stage.TheVariants as stages
use Rattle.core_rule.proofs.copies.CopyingStages.{phase_is_copying, copying_is_after_marking, marking_stands_while_copying}
use Rattle.core_rule.proofs.copies.SwungBook.{swung_is_to_copy, swung_array_is_kept, now, entry, book_swung}
use Rattle.core_rule.proofs.copies.SwungSeats.{heap_stands_after_swing, seat_stands_after_swing}
use Rattle.core_rule.proofs.copies.SwungSpace.{collector_swung, stage, swung_stage_is_free, space_stands_after_swing}
use Rattle.core_rule.proofs.entries.Legality.{legal_after_entry, keeps_space_of_swings}
use Rattle.core_rule.proofs.entries.ToldTurns.{collector_agrees_after_entry}
use Rattle.core_rule.proofs.book.BookGoing.{same_owners_go_on}
use Rattle.core_rule.proofs.graph.SameNodes.{made_has_node}
use Rattle.core_rule.proofs.steps.TurnSteps.{StageKeeps, TurnKeeps, keeps_rule_after_turn}
use Rattle.core_rule.proofs.steps.TurnKinds.{TurnKind, Inside, beside, adds_one, swings_steps_in_phase, stage_keeps_whole, on_bits_of_same_bits, on_spines_beside, has_looked_at_stage}
use Rattle.core_rule.proofs.turns.CopyTurns.{copy_turn_leaves_fewer, swinging_leaves_fewer}
use Rattle.core_rule.proofs.turns.WorkCases.{after_seen_cases}

module _ (heap : Heap) (state : State) (book : Book) (rule : Rule heap state book) (copy : SpineCopy) (swinging : state.collector.stage ≡ stages.Copying (Swinging copy)) where
  abbrev g : Graph
  g = graph_of heap book.history

  abbrev later : Book
  later = book_swung heap state book rule copy swinging

  abbrev log : List Entry
  log = state.collector.log ++ entry heap state book rule copy swinging ∷ []

  fourth : phase book.history % cycle_phases ≡ copying_phase
  fourth = ap (λ p. p % cycle_phases) (sym rule.collector_stands.phase_told) ∙ phase_is_copying heap state book rule (Swinging copy) swinging

  -- it is an array
  is_array : IsArray g copy.array.id
  is_array =
      let found = (swung_is_to_copy heap state book rule copy swinging).found in
      let made : node g (id_at book.made found.begins.index) ≡ Some (node_at g book.made found.begins.index)
      = made_has_node (node g (id_at book.made found.begins.index)) (rule.heap_stands.ids.in_graph found.begins.index (swung_array_is_kept heap state book rule copy swinging).0) in
      subst (λ o. IsSomeAnd o (λ (object : Node). object.array ≡ true)) (sym (ap (node g) found.named ∙ made)) found.begins.is_array

  -- that hasn't swung in this phase
  unswung : ¬ HasSwung copy.array.id book.history
  unswung swung =
      let copies = swung_is_to_copy heap state book rule copy swinging in
      let there = swung_array_is_kept heap state book rule copy swinging in
      copies.left (ap (λ (p : Spot). p.half) copies.own ∙ rule.space.halves.swung (phase_is_copying heap state book rule (Swinging copy) swinging) copies.found.begins.index there.0 there.1
      (subst (λ id. HasSwung id book.history) copies.found.named swung))

  legal : IsLegal heap false later.history
  legal = legal_after_entry heap false book.history (entry heap state book rule copy swinging) rule.heap_stands.legal tt
      (keeps_space_of_swings heap false book.history copy.array.id (fourth, is_array, unswung))

  agrees : CollectorAgrees heap (collector_swung heap state book rule copy swinging log) later.history
  agrees = collector_agrees_after_entry heap book.history state.collector (stage heap state book rule copy swinging) (entry heap state book rule copy swinging) refl refl refl (λ number. refl) rule.collector_stands

  swing_turns : TurnKeeps heap state book (turn_at heap state.collector (stages.Copying (Swinging copy)))
  swing_turns machine =
      let goes_free = swung_stage_is_free heap state book rule copy swinging in
      keeps_rule_after_turn heap state book (now heap state book rule copy swinging) (collector_swung heap state book rule copy swinging log) later (entry heap state book rule copy swinging ∷ []) rule machine refl
      (heap_stands_after_swing heap state book rule copy swinging legal) (λ r below stands. seat_stands_after_swing heap state book rule copy swinging r below stands) agrees
      record {
        heap_marks = marking_stands_while_copying heap (now heap state book rule copy swinging) book.owner book.colour book.fragments state.collector.phase (phase_is_copying heap state book rule (Swinging copy) swinging)
            (copying_is_after_marking heap state book rule (Swinging copy) swinging) (stage heap state book rule copy swinging) goes_free.of_copying goes_free.few;
        roots = λ r below marks. absurd (omega (arith, marks.phase, phase_is_copying heap state book rule (Swinging copy) swinging));
      }
      (space_stands_after_swing heap state book rule copy swinging log)
      record { made = λ j below. refl; owners = same_owners_go_on (length book.made) book.owner; marked = λ f j k owned below marked. inl marked }

pub swing_keeps : (copy : SpineCopy) → StageKeeps (stages.Copying (Swinging copy))
swing_keeps copy heap state book rule swinging machine = swing_turns heap state book rule copy swinging machine

-- all that is asked of it
pub turn_kind_of_copy_swinging : (copy : SpineCopy) → TurnKind (stages.Copying (Swinging copy))
turn_kind_of_copy_swinging copy = record {
  keeps = stage_keeps_whole (stages.Copying (Swinging copy)) (swing_keeps copy);
  fewer = copy_turn_leaves_fewer (Swinging copy) (swinging_leaves_fewer copy);
  inside = λ heap state book rule cycle is. after_seen_cases (Inside heap state book rule cycle) (λ stage. tt) tt heap _ _ _;
  shape = λ heap collector found. adds_one (stages.Copying (Swinging copy)) (Swings copy.array.id) (swings_steps_in_phase heap copy.array.id) refl refl;
  looked = has_looked_at_stage (stages.Copying (Swinging copy)) (λ heap phase looked fits. fits.0.all);
  bits = on_bits_of_same_bits (stages.Copying (Swinging copy)) (λ heap collector. beside (λ g below e. omega (arith, e, below)));
  spines = on_spines_beside (stages.Copying (Swinging copy)) (λ heap collector. tt);
}
