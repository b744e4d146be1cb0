-- The collector frees the dead fragments of a group: that keeps the rule.
use Rattle.std.proofs.Common.{◌≡◌, ℕ, zero, suc, ◌%◌, ◌≤◌, List, [], ◌∷◌, ◌++◌, length, count_ones, inl, inr, refl, sym, ap, ◌∙◌, subst, arith}
use Rattle.std.proofs.lemmas.Bool.Decides.{eqb_tells}
use Rattle.std.proofs.lemmas.Nat.{zero_from_ones}
use Rattle.core_rule.proofs.Terms.{cycle_phases, Frees, Heap, phase, Graph, Collector, IsFreeing, State, sum_upto, IsMachine, Book, SweepCounts, dead_sum, words_of_object}
use Rattle.core_rule.proofs.Terms.{nodes_in, returning, AfterMarking, MarkingStands, AreFreed, AreDead, SweepStands, node_at, CollectorAgrees, Rule}
use Rattle.heap_model.specs.PhasePlan.{sweep as sweep_phase}
use Rattle.core_machine.specs.collector.Sweeping.{after_freed}
use Rattle.core_machine.specs.declared.collector.stage.Stage.TheVariants as stages
use Rattle.core_rule.proofs.entries.ToldTurns.{collector_agrees_after_entry}
use Rattle.core_rule.proofs.book.BookGoing.{book_goes_on_with_owners}
use Rattle.core_rule.proofs.book.OwnersGo.{owners_go_on_by_freeing}
use Rattle.core_rule.proofs.frames.Freeing.{words_freed, book_freed, graph_same_after_freeing, same_kept_after_freeing, leaves_spines_after_freeing, same_told_after_freeing, heap_stands_after_freeing, seat_stands_after_freeing}
use Rattle.core_rule.proofs.marking.SweepMarks.{after_swept_either, after_freed_either, marking_stands_after_freed}
use Rattle.core_rule.proofs.objects.ObjectFrames.{SameKept}
use Rattle.core_rule.proofs.owners.DeadOwners.{set_bits_are_dead}
use Rattle.core_rule.proofs.owners.DeadOwners as owners
use Rattle.core_rule.proofs.spines.OtherWords.{LeavesPlaces, LeavesSpines, leaves_places_of_spines}
use Rattle.core_rule.proofs.dying.SweepSums.{at_position, dead_sum_falls_by_group}
use Rattle.core_rule.proofs.dying.SweptSpace.{CopiesNone, Sweeps, space_stands_after_sweep}
use Rattle.core_rule.proofs.steps.Assemble.{Keeps}
use Rattle.core_rule.proofs.owners.OwnerLemmas.{dead_bit_is_dead}
use Rattle.core_rule.proofs.steps.TurnSteps.{StageKeeps, after_turn, keeps_rule_after_turn}
use Rattle.core_rule.proofs.words.SetBits.{set_in, set_length_is_bit_count}
use Rattle.core_rule.proofs.steps.TurnKinds.{TurnKind, inside_after_freed, adds_one, frees_steps_in_phase, stage_keeps_whole, on_spines_beside, has_looked_at_stage}
use Rattle.core_rule.proofs.turns.SweepTurns.{free_leaves_fewer}
use Rattle.core_rule.proofs.steps.collector.FreeBits.{on_bits_of_freeing}

module _ (heap : Heap) (state : State) (book : Book) (rule : Rule heap state book) (group dead counted : ℕ) (freeing : state.collector.stage ≡ stages.Freeing group dead counted) where
  fits : IsFreeing heap state.collector.phase state.collector.looked group dead counted
  fits = rw freeing at rule.machine.collector_fit.at_stage

  told : AreFreed book.owner group × AreDead book.owner group dead
  told = subst (SweepStands heap book.owner book.colour state.collector.phase) freeing rule.marks_stand.heap_marks.sweep_stands

  after : AfterMarking book.owner book.colour
  after = rule.marks_stand.heap_marks.after (inr (inr fits.sweeps.for_sweep))

  sweeps : phase book.history % cycle_phases ≡ sweep_phase
  sweeps = ap (λ p. p % cycle_phases) (sym rule.collector_stands.phase_told) ∙ fits.sweeps.for_sweep

  some : 1 ≤ length (set_in group dead)
  some = by (count_ones dead) refl
    where
      by : (n : ℕ) → count_ones dead ≡ n → 1 ≤ length (set_in group dead)
      by zero none = absurd (fits.some_dead (zero_from_ones dead none))
      by (suc n) is = omega (arith, is, set_length_is_bit_count group dead fits.dead_within)

  abbrev now : Book
  now = book_freed heap state book rule group dead fits.sweeps.group_within fits.dead_within told.1

  abbrev words : List ℕ
  words = words_freed heap state book rule group dead fits.sweeps.group_within fits.dead_within told.1

  -- the collector with so many told to be freed
  abbrev freed : ℕ → Collector
  freed n = record state.collector { stage = after_freed heap group counted; log = state.collector.log ++ Frees n ∷ [] }

  agrees : CollectorAgrees heap (freed (length (set_in group dead))) now.history
  agrees = collector_agrees_after_entry heap book.history state.collector (after_freed heap group counted) (Frees (length (set_in group dead))) refl refl refl (λ number. refl) rule.collector_stands

  marks : MarkingStands heap words now.owner book.colour book.fragments state.collector.phase (after_freed heap group counted)
  marks = marking_stands_after_freed heap words now.owner book.colour book.fragments state.collector.phase fits.sweeps.for_sweep
      (owners.after_marking_when_freed book.owner (set_in group dead) (set_bits_are_dead book.owner group dead fits.dead_within told.1) book.colour after) group counted
      (owners.are_freed_up_to_next book.owner group dead fits.dead_within told.1 told.0)

  abbrev spine_words : ℕ → ℕ
  spine_words = words_of_object (nodes_in heap book)

  -- the spine words of what is freed are returned next
  counts : counted ≡ sum_upto 16 (at_position heap spine_words book.owner group dead told.1)
  counts = subst (SweepCounts spine_words book.owner) freeing rule.space.budgets.counts

  returns_next : returning (after_freed heap group counted) ≡ counted
  returns_next = elim (eqb_tells counted 0) as (λ _. returning (after_freed heap group counted) ≡ counted) [
    | inl none ↦ rw none.0 (after_swept_either (λ stage. returning stage ≡ counted) heap group (sym none.1) (λ last. sym none.1))
    | inr some ↦ rw some.0 refl
  ]

  copies_none : CopiesNone (after_freed heap group counted)
  copies_none = after_freed_either CopiesNone heap group counted (after_swept_either CopiesNone heap group tt (λ last. tt)) tt

  leaves : LeavesSpines heap state.words words
  leaves = leaves_spines_after_freeing heap state book rule group dead fits.sweeps.group_within fits.dead_within told.1

  places : LeavesPlaces heap state.words words
  places = leaves_places_of_spines heap state.words words leaves

  kept_on : SameKept book.owner now.owner
  kept_on = same_kept_after_freeing heap state book rule group dead fits.sweeps.group_within fits.dead_within told.1

  -- so no words are returned yet
  sweeps_on : Sweeps heap state book rule fits.sweeps.for_sweep (subst CopiesNone (sym freeing) tt) (after_freed heap group counted) copies_none words places (freed (length (set_in group dead))).log now.history
      (graph_same_after_freeing heap state book rule group dead fits.sweeps.group_within fits.dead_within told.1) now.owner kept_on 0
  sweeps_on =
      let history = same_told_after_freeing heap state book rule group dead fits.sweeps.group_within fits.dead_within told.1 in
      let none : returning state.collector.stage ≡ 0 = rw freeing refl in
      let less = dead_sum_falls_by_group heap spine_words book.owner group dead fits.sweeps.group_within fits.dead_within told.1 in
      let same_graph = ap (λ (g : Graph). dead_sum heap (words_of_object (node_at g book.made)) now.owner) (graph_same_after_freeing heap state book rule group dead fits.sweeps.group_within fits.dead_within told.1) in
      record {
        less = omega (arith, none, less, same_graph, counts, returns_next);
        budget = omega (arith, leaves.budget);
        granted = history.granted;
        told = omega (arith, history.returned);
        in_cycle = omega (arith, history.in_cycle);
        counts = after_freed_either (SweepCounts (words_of_object (nodes_in heap now)) now.owner) heap group counted (after_swept_either (SweepCounts (words_of_object (nodes_in heap now)) now.owner) heap group tt (λ last. tt)) tt;
      }

  keeps : IsMachine heap (after_turn state words (freed (length (set_in group dead))))
      → Keeps heap state (after_turn state words (freed (length (set_in group dead)))) book book.begun (Frees (length (set_in group dead)) ∷ [])
  keeps machine = keeps_rule_after_turn heap state book words (freed (length (set_in group dead))) now (Frees (length (set_in group dead)) ∷ []) rule machine refl
      (heap_stands_after_freeing heap state book rule group dead fits.sweeps.group_within fits.dead_within told.1 sweeps some after)
      (seat_stands_after_freeing heap state book rule group dead fits.sweeps.group_within fits.dead_within told.1)
      agrees
      record { heap_marks = marks; roots = λ r below is. absurd (omega (arith, is.phase, fits.sweeps.for_sweep)) }
      (space_stands_after_sweep heap state book rule fits.sweeps.for_sweep (subst CopiesNone (sym freeing) tt) (after_freed heap group counted) copies_none words places (freed (length (set_in group dead))).log now.history
      (graph_same_after_freeing heap state book rule group dead fits.sweeps.group_within fits.dead_within told.1) now.owner kept_on 0 sweeps_on)
      (book_goes_on_with_owners heap state book now.history book.begun now.owner (owners_go_on_by_freeing (length book.made) book.owner (set_in group dead)
      (λ f there. dead_bit_is_dead (book.owner f) (set_bits_are_dead book.owner group dead fits.dead_within told.1 f there))))

  -- so many fragments are told to be freed as there are bits
  free_kept : IsMachine heap (after_turn state words (freed (count_ones dead))) → Keeps heap state (after_turn state words (freed (count_ones dead))) book book.begun (Frees (count_ones dead) ∷ [])
  free_kept = subst (λ n. IsMachine heap (after_turn state words (freed n)) → Keeps heap state (after_turn state words (freed n)) book book.begun (Frees n ∷ []))
      (set_length_is_bit_count group dead fits.dead_within) keeps

pub free_keeps : (group dead counted : ℕ) → StageKeeps (stages.Freeing group dead counted)
free_keeps group dead counted heap state book rule freeing machine = free_kept heap state book rule group dead counted freeing machine

-- all that is asked of it
pub turn_kind_of_freeing : (group : ℕ) (dead : ℕ) (counted : ℕ) → TurnKind (stages.Freeing group dead counted)
turn_kind_of_freeing group dead counted = record {
  keeps = stage_keeps_whole (stages.Freeing group dead counted) (free_keeps group dead counted);
  fewer = λ few. free_leaves_fewer group dead counted;
  inside = λ heap state book rule cycle is. inside_after_freed heap state book rule cycle group counted;
  shape = λ heap collector found. adds_one (stages.Freeing group dead counted) (Frees (count_ones dead)) (frees_steps_in_phase heap (count_ones dead)) refl refl;
  looked = has_looked_at_stage (stages.Freeing group dead counted) (λ heap phase looked fits. fits.sweeps.all);
  bits = on_bits_of_freeing group dead counted;
  spines = on_spines_beside (stages.Freeing group dead counted) (λ heap collector. tt);
}
