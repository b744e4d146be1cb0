-- A cycle leaves little, and keeps what is reached.
use Rattle.std.proofs.Common.{◌≡◌, ◌≢◌, ℕ, ◌/◌, ◌%◌, inr, List, sym, ap, ◌∙◌, subst, arith}
use Rattle.core_rule.proofs.Terms.{cycle_phases, Ends, Heap, Id, graph_of, bound, EndsCycle, phase, up_to_cycle, IsReach, HasCleared, State, Book, returning, Dead, Rule}
use Rattle.heap_model.specs.PhasePlan.{clearing as clearing_phase}
use Rattle.core_machine.specs.declared.collector.stage.Stage.TheVariants as stages
use Rattle.core_rule.specs.footprint.Footprint.{ClearedWithin, Footprint, StageStandsInside, is_inside}
use Rattle.core_rule.specs.Stands.{Stands}
use Rattle.core_rule.proofs.sweep_exact.EndWords.{words_used_within_bound}
use Rattle.core_rule.proofs.sweep_exact.EndSize.{used_within_bound, kept_count_within_bound, reached_kept_is_counted}
use Rattle.core_rule.proofs.footprint.Inside.{contained_is_among}
use Rattle.core_rule.proofs.kept.KeptReached.{reached_is_named_kept}
use Rattle.core_rule.proofs.sweep_exact.Leaving.{IsCountedRight, ends_cycle}
use Rattle.core_rule.proofs.marking.Marks.{settled_phase_is_between}

module _ (heap : Heap) (state : State) (book : Book) (stands : Stands heap state book) (kept : ℕ) (ending : state.collector.stage ≡ stages.Ending kept) where
  abbrev rule : Rule heap state book
  rule = stands.rule

  fits : HasCleared heap state.collector.phase state.collector.looked kept
  fits = rw ending at rule.machine.collector_fit.at_stage

  last : phase book.history % cycle_phases ≡ clearing_phase
  last = ap (λ p. p % cycle_phases) (sym rule.collector_stands.phase_told) ∙ fits.for_clearing

  -- nothing is to be freed any more
  alive : (f i k : ℕ) → book.owner f ≢ Dead i k
  alive = rule.marks_stand.heap_marks.alive (λ settled. let between = settled_phase_is_between state.collector.phase state.collector.stage settled in omega (arith, between.upto, fits.for_clearing))

  -- what was counted is right, whatever was reached when the cycle began
  counted : (begun : List Id) → IsReach (graph_of heap (up_to_cycle book.history)) begun → IsCountedRight heap book.history kept begun
  counted begun reach =
      let most : ℕ = bound heap begun book.history in
      let foot : Footprint heap state book begun (is_inside (graph_of heap (up_to_cycle book.history)) begun) most = stands.cycle (λ rests. omega (arith, rests, last)) begun reach in
      let cleared : ClearedWithin heap book.made begun book.owner most heap.groups kept
      = subst (StageStandsInside heap book.made begun (is_inside (graph_of heap (up_to_cycle book.history)) begun) book.owner most) ending foot.stage in
      let old = rule.heap_stands in
      record {
        used = used_within_bound heap book.made book.owner (is_inside (graph_of heap (up_to_cycle book.history)) begun) (λ f i k owned. foot.kept f i k owned (inr last)) alive book.history most old.used foot.size;
        spine = words_used_within_bound heap state book rule begun reach (λ f i k owned. foot.kept f i k owned (inr last)) alive (ap returning ending);
        at_most = kept_count_within_bound heap book.made begun book.owner most heap.groups kept cleared;
        at_least = λ both ordered all. reached_kept_is_counted heap state.words (graph_of heap book.history) book.made book.owner book.fragments old.ids old.objects
            old.control_words.outside begun both most kept cleared ordered
            (λ id there. contained_is_among begun id (all id there).1) (λ id there. reached_is_named_kept heap state book rule id (all id there).0);
      }

  -- so it may end
  pub cycle_ends_rightly : EndsCycle heap book.history (Ends (state.collector.phase / 7) kept)
  cycle_ends_rightly = ends_cycle heap book.history (state.collector.phase / 7) kept (let told = rule.collector_stands.phase_told in omega (arith, told, last))
      (λ number below present. rule.collector_stands.looked number (omega (arith, below, fits.all)) below present) counted
