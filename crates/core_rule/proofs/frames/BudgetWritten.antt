-- What stands of the heap and of the seats where the budget is written: all of it.
use Rattle.std.proofs.Common.{ℕ, ◌<◌, List, length, arith}
use Rattle.core_rule.proofs.Terms.{Heap, graph_of, Budget, Word, State, seat_at, put, Book, node_at, Rule, HeapStands, SeatStands}
use Rattle.core_rule.proofs.colours.LeadsFrames.{SameSources, led_before_where_same, same_sources_ahead}
use Rattle.core_rule.proofs.frames.BesideFrames.{LeavesBeside, ArraysStay, leaves_beside_word_aside, arrays_stay, heap_stands_beside, seat_stands_beside}
use Rattle.core_rule.proofs.spines.OtherWords.{LeavesPlaces, leaves_places_after_budget}
use Rattle.core_rule.proofs.spines.SpineFrames.{same_kept_of_itself, same_shape_of_itself, spines_stand_at_same_places, spine_is_stored_by_words, spines_left_of_itself, places_stay_where_same}
use Rattle.core_rule.proofs.words.Addresses.{at-put_apart}

module _ (heap : Heap) (state : State) (book : Book) (rule : Rule heap state book) (n : ℕ) where
  abbrev pub budget_words : List ℕ
  budget_words = put heap state.words Budget n

  beside : LeavesBeside heap state.words budget_words
  beside = leaves_beside_word_aside heap state.words Budget n (omega arith) (omega arith)

  pub budget_words_leave_places : LeavesPlaces heap state.words budget_words
  budget_words_leave_places = leaves_places_after_budget heap state.words n

  arrays : ArraysStay heap state.words budget_words book
  arrays = arrays_stay heap state.words budget_words book budget_words_leave_places.spines

  -- fragments lead where they led
  pub same_sources_after_budget : (f : ℕ) → SameSources heap state.words budget_words f
  same_sources_after_budget = same_sources_ahead heap state.words Budget n (omega arith)

  pub heap_stands_after_budget : HeapStands heap budget_words book
  heap_stands_after_budget =
      heap_stands_beside heap state book rule budget_words beside arrays book.spine_owner (λ f source x dark leads. led_before_where_same heap state.words budget_words f (same_sources_after_budget f) source x leads)
      (spines_stand_at_same_places heap state.words budget_words budget_words_leave_places heap.seats (length book.made) book.spines book.fragments book.spine_owner
      (node_at (graph_of heap book.history) book.made) (node_at (graph_of heap book.history) book.made)
      book.owner book.owner (same_kept_of_itself book.owner) (same_shape_of_itself (node_at (graph_of heap book.history) book.made))
      (λ f i k is. (is, at-put_apart heap state.words Budget (Word f 0) n (λ e. omega (arith, e)))) rule.heap_stands.spines)

  pub seat_stands_after_budget : (r : ℕ) → r < heap.seats → SeatStands heap budget_words book r (seat_at state r)
  seat_stands_after_budget r below =
      seat_stands_beside heap state book rule budget_words beside arrays book.spine_owner r below (spines_left_of_itself r book.spine_owner)
      (spine_is_stored_by_words heap state.words budget_words (seat_at state r) budget_words_leave_places.spines (rule.seats_stand r below).own.spine.stored)
      (places_stay_where_same heap state.words budget_words (length book.made) book.spines book.spine_owner budget_words_leave_places.spines)
