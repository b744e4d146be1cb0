-- What stands of a cycle where it begins: nothing was marked before, and each seat has answered at rest or left.
use Rattle.std.proofs.Common.{◌≡◌, ◌≢◌, ℕ, ◌+◌, ◌*◌, ◌%◌, ◌<◌, ◌≤◌, inl, inr, ◌==◌, Bool, true, List, [], ◌∷◌, length, IsSome, refl, sym, ap, ◌∙◌, subst, arith}
use Rattle.std.proofs.lemmas.Bool.{both_ways}
use Rattle.std.proofs.lemmas.Bool.Decides.{eqb_tells}
use Rattle.core_rule.proofs.Terms.{cycle_phases, Advance, Heap, Id, graph_of, bound, all_bring, phase, begins_cycle, up_to_cycle, register_value, IsReach, fragments_of_all}
use Rattle.core_rule.proofs.Terms.{HasLooked, ShadingOld, State, seat_at, sum_upto, has_barrier_of, Seat, head_of, Book, id_at, IsMarked, fragments_in_hand, Kept, Rule}
use Rattle.heap_model.specs.PhasePlan.{barriers as barriers_phase, rest as resting}
use Rattle.heap_model.specs.declared.id.Value.TheVariants as values
use Rattle.core_machine.specs.collector.FitsTurns.{FitsStage}
use Rattle.core_machine.specs.declared.collector.stage.Stage.TheVariants as stages
use Rattle.core_machine.specs.declared.point.Point.TheVariants as points
use Rattle.core_machine.specs.seat.FitsAccess.{SeatIsAtSet}
use Rattle.core_rule.specs.footprint.Footprint.{StageStandsInside, is_inside, inside_bit}
use Rattle.core_rule.specs.looks.Looks.{AllLooksStand}
use Rattle.core_rule.specs.Stands.{Stands}
use Rattle.core_rule.proofs.cycle.Barriers.{barrier_is_between}
use Rattle.core_rule.proofs.entries.AtRest.{seat_fits, in_flight_has_not_left}
use Rattle.core_rule.proofs.entries.PhaseEntries.{phase_rises}
use Rattle.core_rule.proofs.sweep_exact.BeginSize.{inside_within_held_and_reached}
use Rattle.core_rule.proofs.book.BookGoing.{IsNamed, by_register, by_set, by_scan, by_spine}
use Rattle.core_rule.proofs.footprint.Bounds.{up_to_cycle_at_begin, graph_same_at_begin, all_bring_same_at_begin, bound_at_begin}
use Rattle.core_rule.proofs.footprint.Brought.{own_sum_within_all_bring}
use Rattle.core_rule.proofs.footprint.Closed.{register_ids_are_inside}
use Rattle.core_rule.proofs.footprint.Named.{referred_id_is_objects}
use Rattle.core_rule.proofs.footprint.NoneNew.{kept_was_kept}
use Rattle.core_rule.proofs.steps.Assemble.{Keeps}

module _ (heap : Heap) (state new : State) (book : Book) (begun_at : ℕ → ℕ) (p : ℕ) (stands : Stands heap state book) (keeps : Keeps heap state new book begun_at (Advance p ∷ []))
    (begins : begins_cycle (Advance p) ≡ true) (advancing : state.collector.stage ≡ stages.Advancing) (next : state.collector.phase + 1 ≡ p) where
  abbrev rule : Rule heap state book
  rule = stands.rule

  abbrev now : Book
  now = keeps.now

  is_first : p % cycle_phases ≡ barriers_phase
  is_first = elim (eqb_tells (p % cycle_phases) barriers_phase) [ inl e ↦ e.1 | inr e ↦ absurd (both_ways (p % cycle_phases == barriers_phase) e.0 begins) ]

  -- until now no cycle was under way
  rested : phase book.history % cycle_phases ≡ resting
  rested = let told : state.collector.phase ≡ phase book.history = rule.collector_stands.phase_told in omega (arith, told, next, is_first)

  is_begun : phase now.history % cycle_phases ≡ barriers_phase
  is_begun = let rises : phase now.history ≡ phase book.history + 1 = ap phase keeps.grown ∙ phase_rises book.history (Advance p) refl in omega (arith, rises, rested)

  -- the entry leaves the graph
  window : up_to_cycle now.history ≡ now.history
  window = ap up_to_cycle keeps.grown ∙ up_to_cycle_at_begin book.history (Advance p) begins ∙ sym keeps.grown

  graph : graph_of heap now.history ≡ graph_of heap book.history
  graph = ap (graph_of heap) keeps.grown ∙ graph_same_at_begin heap book.history (Advance p) begins

  -- every seat has answered at rest or has left, so none loads the old value of a set
  no_set : (number : ℕ) → number < heap.seats → (seat_at state number).point ≢ points.Access ShadingOld
  no_set number here point_is =
      let looked : HasLooked heap.seats state.collector.phase state.collector.looked = subst (FitsStage heap state.collector.phase state.collector.looked) advancing rule.machine.collector_fit.at_stage in
      let fits : SeatIsAtSet (seat_at state number) × (has_barrier_of (seat_at state number) ≡ true) × IsSome (head_of (seat_at state number).loaded) = rw point_is at (seat_fits rule number here).way_at_point in
      let told = (rule.seats_stand number here).cycle.answers_told in
      let present = in_flight_has_not_left rule number here (λ idle. cc (idle, point_is)) in
      let answered = rule.collector_stands.looked number (omega (arith, here, looked.all)) here (told.leaves ∙ present) in
      let barriers = barrier_is_between (seat_at state number) fits.1 in
      omega (arith, answered, told.told, rested, barriers.from)

  module _ (begun : List Id) (reach : IsReach (graph_of heap (up_to_cycle now.history)) begun) where
    abbrev inside : Id → Bool
    inside = is_inside (graph_of heap (up_to_cycle now.history)) begun

    -- what was named is inside: a register holds its object
    named_begun : (f i k : ℕ) → IsNamed heap state book f → book.owner f ≡ Kept i k → inside (id_at book.made i) ≡ true
    named_begun f i k (by_register number r refers) owned =
        subst (λ id. inside id ≡ true) (referred_id_is_objects book (register_value (graph_of heap book.history) number r) f i k refers owned)
        (register_ids_are_inside heap now.history begun keeps.rule.heap_stands.legal.objects reach number r refers.id
        (subst (λ g. register_value g number r ≡ values.Object refers.id) (sym graph) refers.is))
    named_begun f i k (by_set number here point_is loads) owned = absurd (no_set number here point_is)
    named_begun f i k (by_scan scan target shading) owned = absurd (cc (shading, advancing))
    named_begun f i k (by_spine s spreading) owned = absurd (cc (spreading, advancing))

    -- so what is marked is inside
    marked_begun : (f i k : ℕ) → now.owner f ≡ Kept i k → IsMarked now.colour f → inside (id_at now.made i) ≡ true
    marked_begun f i k owned marked =
        let was = kept_was_kept heap state new book now rule keeps.rule keeps.goes graph f i k owned in
        elim (keeps.goes.marked f i k owned was.0 marked) [
          | inl before ↦ absurd (before (rule.heap_stands.cycle.coloured.rest rested f))
          | inr named ↦ subst (λ id. inside id ≡ true) (sym (keeps.goes.made i was.0)) (named_begun f i k named was.1)
        ]

    -- and no more is inside than what is reached and what the seats bring
    size_begun : sum_upto (16 * heap.groups) (λ f. inside_bit inside now.made (now.owner f)) ≤ bound heap begun now.history
    size_begun =
        let after = keeps.rule.heap_stands in
        let own : ℕ → ℕ = λ q. length (seat_at new q).reserve + length (fragments_in_hand (seat_at new q).hand (seat_at new q).body) in
        let size = inside_within_held_and_reached heap new.words (graph_of heap now.history) now.made now.owner now.fragments after.ids after.objects
        after.control_words.outside after.owners (λ q. (seat_at new q).reserve) (λ q. (seat_at new q).hand) (λ q. (seat_at new q).body)
        (λ q below. (keeps.rule.seats_stand q below).own.holding) begun reach.ordered in
        let brought = own_sum_within_all_bring heap now.history own (λ q below. (keeps.rule.seats_stand q below).told.counts.unborn) in
        let most = ap (bound heap begun) keeps.grown ∙ bound_at_begin heap begun book.history (Advance p) begins in
        let bring = ap (all_bring heap) keeps.grown ∙ all_bring_same_at_begin heap book.history (Advance p) begins in
        let reached = ap (λ g. fragments_of_all g begun) graph in
        subst (λ h. sum_upto (16 * heap.groups) (λ f. inside_bit (is_inside (graph_of heap h) begun) now.made (now.owner f)) ≤ bound heap begun now.history) (sym window)
        (omega (arith, size, brought, most, bring, reached))

  module _ (looking : new.collector.stage ≡ stages.Looking) (seats : (r : ℕ) → seat_at new r ≡ seat_at state r) (looks : AllLooksStand heap new now.history) where
    -- the begin of a cycle keeps what stands
    pub stands_after_cycle_begin : Stands heap new now
    stands_after_cycle_begin = record {
      rule = keeps.rule;
      cycle = λ running begun reach. record {
        kept = λ f i k owned why. elim why [
          | inl marked ↦ marked_begun begun reach f i k owned marked
          | inr last ↦ absurd (omega (arith, last, is_begun))
        ];
        olds = λ number f i k here point_is loads owned. absurd (no_set number here (ap (λ (s : Seat). s.point) (sym (seats number)) ∙ point_is));
        stage = subst (StageStandsInside heap now.made begun (is_inside (graph_of heap (up_to_cycle now.history)) begun) now.owner (bound heap begun now.history)) (sym looking) tt;
        size = size_begun begun reach;
      };
      looks = looks;
    }
