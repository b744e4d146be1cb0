-- A seat marks a kept object's fragment: its step leaves marking.
use Rattle.std.specs.Prelude.{bit_or}
use Rattle.std.proofs.Common.{◌≡◌, ℕ, ◌*◌, ◌/◌, ◌<◌, List, false, sym, ◌∙◌, subst, arith, ◌%◌, ◌≢◌, ap}
use Rattle.core_rule.proofs.Terms.{cycle_phases, Heap, Control, IsPassing, State, seat_at, Seat, at, put, Book, WordPointsTo, IsKeptFragment, HasMarked, IsReached, Rule}
use Rattle.heap_model.specs.PhasePlan.{clearing as clearing_phase}
use Rattle.core_machine.specs.declared.collector.stage.Stage.TheVariants as stages
use Rattle.core_machine.specs.table.Operation.{shade_bit_of}
use Rattle.core_rule.specs.roots.Roots.{IsInMarking}
use Rattle.core_rule.proofs.colours.LeadsFrames.{SameSources, same_sources_ahead, led_before_control_write, leads_after_control_write}
use Rattle.core_rule.proofs.colours.ShadeColours.{with_mark}
use Rattle.core_rule.proofs.marking.Marks.{MarksGoOn, RootsGoOn, roots_hold_still, each_seat_answered_phase, only_clears_never}
use Rattle.core_rule.proofs.marking.MarkingFrames.{OnlyClears}
use Rattle.core_rule.proofs.marking.Paths.{reached_stays_after_shade}
use Rattle.core_rule.proofs.marking.ShadeMarks.{marking_stands_after_shade}

module _ (heap : Heap) (state : State) (book : Book) (rule : Rule heap state book) (f : ℕ) (within : f < 16 * heap.groups) where
  abbrev pub words_marked : List ℕ
  words_marked = put heap state.words (Control (f / 16)) (bit_or (at heap state.words (Control (f / 16))) (shade_bit_of f))

  group_below : f / 16 < heap.groups
  group_below = omega (arith, within)

  pub same_sources_after_mark : (x : ℕ) → SameSources heap state.words words_marked x
  same_sources_after_mark = same_sources_ahead heap state.words (Control (f / 16)) _ (omega (arith, group_below))

  pub led_before_mark : (x source g : ℕ) → WordPointsTo heap words_marked x source g → WordPointsTo heap state.words x source g
  led_before_mark x source g leads = led_before_control_write heap state.words (f / 16) _ group_below x source g leads

  pub leads_on : (x source g : ℕ) → WordPointsTo heap state.words x source g → WordPointsTo heap words_marked x source g
  leads_on x source g leads = leads_after_control_write heap state.words (f / 16) _ group_below x source g leads

  -- marking comes to all that it came to
  pub reached_after_mark : (x : ℕ) → IsReached heap state.words book.owner book.colour x → IsReached heap words_marked book.owner (with_mark book.colour f) x
  reached_after_mark = reached_stays_after_shade heap state.words words_marked book.owner book.colour f leads_on

  -- where it comes to the fragment, all of it goes on
  pub marks_go_on_after_shade : (number : ℕ) (here : number < heap.seats) (next : Seat) → IsKeptFragment book.owner f → (seat_at state number).left ≡ false → next.answered ≡ (seat_at state number).answered
      → (IsInMarking state.collector → (seat_at state number).answered ≡ state.collector.phase → IsReached heap state.words book.owner book.colour f)
      → RootsGoOn heap state book rule number here next → ((seat_at state number).answered % cycle_phases ≢ clearing_phase) → MarksGoOn heap state book (record book { colour = with_mark book.colour f }) words_marked next
  marks_go_on_after_shade number here next kept_fragment present same comes roots early = record {
    heap_on = marking_stands_after_shade heap state.words words_marked book.owner book.colour book.fragments f kept_fragment same_sources_after_mark state.collector.phase state.collector.stage unclear passing rule.marks_stand.heap_marks;
    reached_on = λ marks. reached_after_mark;
    own_on = λ marks answered. roots_hold_still (IsReached heap state.words book.owner book.colour) (IsReached heap words_marked book.owner (with_mark book.colour f)) reached_after_mark next
        (roots marks (rule.marks_stand.roots number here marks (sym same ∙ answered)));
  }
    where
      unclear : OnlyClears ⊥ state.collector.stage
      unclear = only_clears_never heap state book rule (λ last. early (ap (λ p. p % cycle_phases) (each_seat_answered_phase heap state book rule last.all number here present) ∙ last.last))

      passing : (group : ℕ) → state.collector.stage ≡ stages.Passing group false → IsReached heap state.words book.owner book.colour f
      passing group is =
          let fits : IsPassing heap state.collector.phase state.collector.looked group = rw is at rule.machine.collector_fit.at_stage in
          comes record { phase = fits.marks.for_marking; goes_on = subst HasMarked is } (each_seat_answered_phase heap state book rule fits.marks.all number here present)
