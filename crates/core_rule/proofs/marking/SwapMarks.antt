-- What a call takes out of a field and what it puts in is marked, so marking comes to all that it came to.
use Rattle.std.proofs.Common.{◌≡◌, ℕ, ◌%◌, ◌^◌, ◌<◌, ◌⊎◌, inl, inr, sym, subst, arith, List}
use Rattle.std.proofs.lemmas.Bool.{cases_eq}
use Rattle.core_rule.proofs.Terms.{cycle_phases, Heap, Value, phase, State, seat_at, Seat, Book, object_head, IsMarked, WordPointsTo}
use Rattle.core_rule.proofs.Terms.{NamesKept, value_word, HoldsValue, Rule}
use Rattle.heap_model.specs.PhasePlan.{marking as marking_phase}
use Rattle.core_machine.specs.seat.AccessMoves.{new_register_of}
use Rattle.core_rule.proofs.colours.LeadsFrames.{leads_now_or_is_written, same_sources_beside}
use Rattle.core_rule.proofs.colours.SpineStays.{SpineStays, spine_stays_where_same, spine_stays_where_none, same_sources_of_itself}
use Rattle.core_rule.proofs.cycle.SwapCycle.{Writes, swap_within_heap, words_swapped, swapped_tells_no_spine, leads_stay_after_swap}
use Rattle.core_rule.proofs.marking.Marks.{Leaves, leaves_by_same_sources}

module _ (heap : Heap) (state : State) (book : Book) (number : ℕ) (rule : Rule heap state book) (here : number < heap.seats) (writes : Writes heap state book number)
    (value : Value) (stamp : ℕ) (holds : HoldsValue book.made book.owner book.fragments (new_register_of (seat_at state number)) value)
    (names : NamesKept book.made book.owner book.fragments value) (small : stamp < 2 ^ 32) (word : ℕ) (is_word : word ≡ value_word (object_head book.made book.fragments) value stamp) where
  abbrev seat : Seat
  seat = seat_at state number

  abbrev now : List ℕ
  now = words_swapped heap state book number rule here writes value stamp holds names small word is_word

  -- each other source leads where it led
  leads_later : state.collector.phase % cycle_phases ≡ marking_phase → (f source g : ℕ) → WordPointsTo heap state.words f source g → WordPointsTo heap now f source g ⊎ IsMarked book.colour g
  leads_later marking f source g leads =
      elim (leads_now_or_is_written heap state.words seat.reached seat.part word (swap_within_heap heap state book number rule here) writes.part_small
      writes.no_spine (swapped_tells_no_spine heap state book number rule here writes value stamp holds names small word is_word) f source g leads)
      as (λ _. WordPointsTo heap now f source g ⊎ IsMarked book.colour g) [
        | inl still ↦ inl still
        | inr there ↦ inr (writes.taken_marked marking g (subst (λ p. WordPointsTo heap state.words seat.reached p g) there.1 (subst (λ x. WordPointsTo heap state.words x source g) there.0 leads)))
      ]

  pub leaves_marking_when_swapped : Leaves heap state book rule now book
  leaves_marking_when_swapped =
      let before = leaves_by_same_sources heap state book rule state.words (same_sources_of_itself heap state.words) in
      let same : state.collector.phase ≡ phase book.history = rule.collector_stands.phase_told in
      record {
        born = before.born;
        kept = before.kept;
        dead = before.dead;
        was_dead = before.was_dead;
        fresh = before.fresh;
        dark = before.dark;
        light = before.light;
        back = λ marking f source g born leads. let third = marking.phase in leads_stay_after_swap heap state book number rule here writes value stamp holds names small word is_word
            record { from = omega (arith, same, third); upto = omega (arith, same, third) } f source g born leads;
        on = λ marking f source g born leads. leads_later marking.phase f source g leads;
        spine = λ marking f born. elim (cases_eq f seat.reached) as (λ _. SpineStays heap state.words now f) [
          | inl same ↦ subst (SpineStays heap state.words now) (sym same) (spine_stays_where_none heap state.words now seat.reached writes.no_spine
              (swapped_tells_no_spine heap state book number rule here writes value stamp holds names small word is_word))
          | inr apart ↦ spine_stays_where_same heap state.words now f (same_sources_beside heap state.words seat.reached seat.part word (swap_within_heap heap state book number rule here)
              writes.part_small f apart)
        ];
      }
