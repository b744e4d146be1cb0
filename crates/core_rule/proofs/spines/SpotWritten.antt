-- What stands of the heap and of the seats where the place of the next spine is written: all of it.
use Rattle.std.proofs.Common.{◌≡◌, ℕ, ◌<◌, List, length, sym, ap, ◌∙◌, arith}
use Rattle.core_rule.proofs.Terms.{spot_in, spot_word, Heap, graph_of, State, seat_at, at, put, Book, node_at, Rule, HeapStands, SeatStands, next_spine}
use Rattle.core_machine.specs.declared.table.address.Address.TheVariants as addresses
use Rattle.core_machine.proofs.table_lemmas.Addresses.{at-put_same}
use Rattle.core_rule.proofs.colours.LeadsFrames.{SameSources, led_before_where_same, same_sources_ahead}
use Rattle.core_rule.proofs.frames.BesideFrames.{LeavesBeside, ArraysStay, leaves_beside_word_aside, arrays_stay, heap_stands_beside, seat_stands_beside}
use Rattle.core_rule.proofs.dying.DeadWords.{dead_tell_still}
use Rattle.core_rule.proofs.spines.SpineFrames.{same_shape_of_itself, spine_is_stored_by_words, spines_left_of_itself, places_stay_where_same}
use Rattle.core_rule.proofs.words.Addresses.{SameSpines, at-put_apart, same_spines_elsewhere}

module _ (heap : Heap) (state : State) (book : Book) (rule : Rule heap state book) (n : ℕ) where
  abbrev pub spot_words : List ℕ
  spot_words = put heap state.words addresses.Spot n

  beside : LeavesBeside heap state.words spot_words
  beside = leaves_beside_word_aside heap state.words addresses.Spot n (omega arith) (omega arith)

  -- the spine words and the budget are as before
  pub same_spines_after_spot : SameSpines heap state.words spot_words
  same_spines_after_spot = same_spines_elsewhere heap state.words n addresses.Spot (omega arith)

  pub budget_same_after_spot : at heap spot_words addresses.Budget ≡ at heap state.words addresses.Budget
  budget_same_after_spot = at-put_apart heap state.words addresses.Spot addresses.Budget n (λ e. omega (arith, e))

  arrays : ArraysStay heap state.words spot_words book
  arrays = arrays_stay heap state.words spot_words book same_spines_after_spot

  -- fragments lead where they led
  pub spot_sources : (f : ℕ) → SameSources heap state.words spot_words f
  spot_sources = same_sources_ahead heap state.words addresses.Spot n (omega arith)

  -- the next spine's place is the one that was written
  spot_found : at heap spot_words addresses.Spot ≡ n
  spot_found = at-put_same heap state.words addresses.Spot n rule.machine.table tt

  pub next_spine_is_written_spot : next_spine heap spot_words ≡ spot_in n
  next_spine_is_written_spot = ap spot_in spot_found

  pub heap_stands_after_spot : spot_word (spot_in n) ≡ n → HeapStands heap spot_words book
  heap_stands_after_spot tells =
      let stands = rule.heap_stands.spines in
      let nodes = node_at (graph_of heap book.history) book.made in
      heap_stands_beside heap state book rule spot_words beside arrays book.spine_owner (λ f source x dark leads. led_before_where_same heap state.words spot_words f (spot_sources f) source x leads) record {
        spot = spot_found ∙ sym tells ∙ ap spot_word (sym next_spine_is_written_spot);
        parties = stands.parties;
        kept = stands.kept;
        back = stands.back;
        tells = dead_tell_still heap state.words spot_words (length book.made) nodes nodes book.owner book.owner (λ i below. same_shape_of_itself nodes i)
            (λ f i k is. (is, at-put_apart heap state.words addresses.Spot (addresses.Word f 0) n (λ e. omega (arith, e)))) stands.tells;
      }

  pub seat_stands_after_spot : (r : ℕ) → r < heap.seats → SeatStands heap spot_words book r (seat_at state r)
  seat_stands_after_spot r below =
      seat_stands_beside heap state book rule spot_words beside arrays book.spine_owner r below (spines_left_of_itself r book.spine_owner)
      (spine_is_stored_by_words heap state.words spot_words (seat_at state r) same_spines_after_spot (rule.seats_stand r below).own.spine.stored)
      (places_stay_where_same heap state.words spot_words (length book.made) book.spines book.spine_owner same_spines_after_spot)
