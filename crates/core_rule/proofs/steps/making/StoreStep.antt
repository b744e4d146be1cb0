-- A store into a seat's new object keeps the rule.
use Rattle.std.proofs.Common.{◌≡◌, ℕ, ◌+◌, ◌*◌, ◌/◌, ◌%◌, ◌<◌, ◌≤◌, inl, inr, List, [], length, refl, sym, ap, ◌∙◌, subst, arith}
use Rattle.std.proofs.lemmas.Bool.Decides.{eqb_tells}
use Rattle.std.proofs.lemmas.List.{append-nil}
use Rattle.core_rule.proofs.Terms.{Entry, Heap, graph_of, phase, last_answer, has_left, Word, Bearing, target_of, HasBody, SpineIsListed, tally, at, put, seat_at, newborn_word_of}
use Rattle.core_rule.proofs.Terms.{store_point, after_store, store_move, Seat, fragment_at, UsedStands, node_at, born_bit}
use Rattle.core_machine.specs.declared.table.address.Address.TheVariants.{Answer}
use Rattle.core_machine.specs.declared.point.Making.{Making}
use Rattle.core_machine.specs.declared.point.Making.TheVariants.{Storing}
use Rattle.core_machine.specs.declared.point.Point.TheVariants as points
use Rattle.core_machine.specs.Moves.{seat_after}
use Rattle.core_rule.proofs.budgets.BudgetFrames.{same_grants_recoloured}
use Rattle.core_rule.proofs.frames.SeatFrames.{names_stand_with_words}
use Rattle.core_rule.proofs.words.Addresses.{at-put_apart}
use Rattle.core_rule.proofs.marking.MakingMarks.{leaves_marking_when_stored}
use Rattle.core_rule.proofs.marking.Marks.{marks_go_on_off_way}
use Rattle.core_rule.proofs.book.BookGoing.{book_goes_on_with_history}
use Rattle.core_rule.proofs.budgets.NoneMade.{SameWeights}
use Rattle.core_rule.proofs.spines.OtherWords.{leaves_spines_after_word}
use Rattle.core_rule.proofs.spines.SpineFrames.{SameSpine, spines_stand_with_words, spine_in_hand_goes_on, spine_in_hand_with_words}
use Rattle.core_rule.proofs.steps.Assemble.{keeps_rule_after_step, space_stands_after_step, StepKeeps, seat_fits}
use Rattle.core_rule.proofs.hand.Bodies.{body_has_each_once, body_fragment_is_own}
use Rattle.core_rule.proofs.cycle.CycleFrames.{seat_in_cycle_stays}
use Rattle.core_rule.proofs.cycle.FieldFrames.{leaves_cycle_after_store, watched_is_born, heap_in_cycle_after_store}
use Rattle.core_rule.proofs.hand.HandMoves.{hand_fragment_is_taken}
use Rattle.core_rule.proofs.entries.InFlight.{making_awaits_none, stored_within_body, began_without_entry, making_is_not_answered}
use Rattle.core_rule.proofs.cycle.MakingCycle.{seat_in_cycle_goes_on}
use Rattle.core_rule.proofs.lists.Members.{element_is_tallied}
use Rattle.core_rule.proofs.objects.ObjectFrames.{objects_after_store}
use Rattle.core_rule.proofs.entries.OwnEntries.{counts_agree_without_entry}
use Rattle.core_rule.proofs.owners.OwnerLemmas.{IsOwn, own_is_not_kept, own_is_of_one_seat, own_is_not_dead}
use Rattle.core_rule.proofs.entries.SeatLists.{making_list_is_all_told, own_list_where_all_told}
use Rattle.core_rule.proofs.hand.StoredFrames.{is_stored_after_store}
use Rattle.core_rule.proofs.hand.StoreLemmas.{bits_after_store, first_words_after_store}
use Rattle.core_rule.proofs.dying.DeadWords.{dead_stay_after_word}
use Rattle.core_rule.proofs.steps.StepKinds.{StepKind, beside, comes_from_usual, store_point_is_usual, step_kind_of_way, birth_colour_where_none_borne}

-- what comes next is the next store, or the object's birth
store_cases : (P : Making → Type 0) (stored : ℕ) (body : List ℕ) → P Storing → P Bearing → P (store_point stored body)
store_cases P stored body more all = elim (eqb_tells stored (4 * length body)) as (λ _. P (store_point stored body)) [ inl whole ↦ rw whole.0 all | inr left ↦ rw left.0 more ]

-- either way the seat has its spine as before, and as many words
record StaysPlaced (old new : Seat) : Type 0 where
  same : SameSpine old new
  weights : SameWeights old new
  none_used : (heap : Heap) (history : List Entry) (number : ℕ) → UsedStands heap history number new new.point

stays_placed : (number : ℕ) (seat : Seat) (found : ℕ) → seat.point ≡ points.Making Storing → StaysPlaced seat (seat_after (store_move number seat) found)
stays_placed number seat found point =
    store_cases (λ m. StaysPlaced seat (record (seat_after (store_move number seat) found) { point = points.Making m })) (seat.stored + 1) seat.body
    record {
      same = record { has = λ has. rw point has; had = λ has. rw point at has; need = refl; spine = refl; listed = refl; body = refl };
      weights = record { granted = sym (rw point refl); placed = λ half. sym (rw point refl); refused = sym (rw point refl); range = record { had = λ has. rw point has; spine = λ has. refl; answered = λ has. refl } };
      none_used = λ heap history number. tt;
    }
    record {
      same = record { has = λ has. rw point has; had = λ has. rw point at has; need = refl; spine = refl; listed = refl; body = refl };
      weights = record { granted = sym (rw point refl); placed = λ half. sym (rw point refl); refused = sym (rw point refl); range = record { had = λ has. rw point has; spine = λ has. refl; answered = λ has. refl } };
      none_used = λ heap history number. tt;
    }

-- a store keeps the rule
pub store_keeps : StepKeeps (points.Making Storing) (λ heap. store_move)
store_keeps heap state book number rule here point machine =
    let seat : Seat = seat_at state number in
    let f : ℕ = fragment_at seat.body (seat.stored / 4) in
    let part : ℕ = seat.stored % 4 in
    let word : ℕ = newborn_word_of number seat (seat.stored / 4) part in
    let found : ℕ = at heap state.words (Word f part) in
    let words : List ℕ = put heap state.words (Word f part) word in
    let stands = rule.seats_stand number here in
    let at_point : HasBody seat × (seat.hand ≡ seat.body) × (seat.stored < 4 * length seat.body) × SpineIsListed seat.command seat.spine seat.listed = rw point at (seat_fits rule number here).at_point in
    let row : seat.stored / 4 < length seat.body = omega (arith, at_point.2) in
    let within : f < 16 * heap.groups = (seat_fits rule number here).hand.body_within (seat.stored / 4) 0 row in
    let fits_part : part < 4 = omega arith in
    let own : IsOwn number (book.owner f) = body_fragment_is_own book.owner number seat.reserve seat.hand seat.body stands.own.holding (seat.stored / 4) row in
    let in_hand : 1 ≤ tally f seat.hand = subst (λ fs. 1 ≤ tally f fs) (sym at_point.1) (element_is_tallied seat.body (seat.stored / 4) row) in
    let unborn : born_bit (book.owner f) ≡ 0 = ap born_bit (hand_fragment_is_taken book.owner number seat.reserve seat.hand seat.body stands.own.holding f in_hand) in
    let once = body_has_each_once book.owner number seat.reserve seat.hand seat.body stands.own.holding (omega (arith, row)) in
    let stays = stays_placed number seat found point in
    let leaves = leaves_spines_after_word heap state.words word f part within fits_part in
    keeps_rule_after_step heap state book number words (seat_after (store_move number seat) found) book [] rule here machine (sym (append-nil book.history)) refl
    record {
      control_words = bits_after_store heap state.words book.owner f part word rule.heap_stands.control_words;
      owners = rule.heap_stands.owners;
      ids = rule.heap_stands.ids;
      objects = objects_after_store heap state.words (graph_of heap book.history) book.made book.owner book.fragments book.spines f part word within fits_part
          (λ i k. own_is_not_kept number i k (book.owner f) own) rule.heap_stands.objects;
      spines = spines_stand_with_words heap state.words words leaves heap.seats (length book.made) book.spines book.fragments book.spine_owner
          (node_at (graph_of heap book.history) book.made) book.owner
          (dead_stay_after_word heap state.words book.owner f part word fits_part (λ i k. own_is_not_dead number i k (book.owner f) own)) rule.heap_stands.spines;
      used = rule.heap_stands.used;
      legal = rule.heap_stands.legal;
      cycle = heap_in_cycle_after_store heap state.words book.owner book.colour (phase book.history) f part word within fits_part unborn book.fragments rule.heap_stands.cycle;
    }
    record {
      own = record {
        holding = stands.own.holding;
        stored = first_words_after_store heap seat.body (newborn_word_of number seat) state.words seat.stored once (seat_fits rule number here).hand.body_within at_point.2 rule.machine.table stands.own.stored;
        together = stands.own.together;
        spine = spine_in_hand_goes_on heap state.words words book.spine_owner number seat (seat_after (store_move number seat) found) leaves stays.same stands.own.spine;
      };
      names = record { registers = λ r fresh. stands.names.registers r (making_awaits_none Storing seat.point (target_of seat.command) r point); way = tt; address = tt };
      told = record {
        list = own_list_where_all_told (graph_of heap book.history) book.history book.made book.owner book.fragments number (seat_after (store_move number seat) found) refl
            (append-nil seat.mine ∙ making_list_is_all_told (graph_of heap book.history) book.history book.made book.owner book.fragments number seat Storing point stands.told.list);
        counts = counts_agree_without_entry (graph_of heap book.history) book.history number seat (seat_after (store_move number seat) found) refl refl (rw point refl) refl refl stands.told.counts;
        began = began_without_entry book.history number (book.begun number) seat.point (seat_after (store_move number seat) found).point (making_is_not_answered Storing seat.point point) stands.told.began;
        gathers = stands.told.gathers;
        used = stays.none_used heap book.history number;
      };
      cycle = seat_in_cycle_goes_on heap state.words words book.owner book.owner book.colour (phase book.history) (last_answer number book.history) (has_left number book.history) number seat
          (seat_after (store_move number seat) found) record { answered = refl; left = refl; asked = refl } tt
          (at-put_apart heap state.words (Word f part) (Answer number) word (λ e. omega (arith, e, here, rule.machine.limits.seats_fit))) (λ x borne. borne) stands.cycle;
    }
    (λ r below apart other. record {
      own = record {
        holding = other.own.holding;
        stored = is_stored_after_store heap state.words book.owner r (seat_at state r) f part word other.own.holding
            (stored_within_body heap (seat_at state r) (seat_at state r).point (seat_fits rule r below).at_point) fits_part (λ o. apart (own_is_of_one_seat r number (book.owner f) o own)) other.own.stored;
        together = other.own.together;
        spine = spine_in_hand_with_words heap state.words words book.spine_owner r (seat_at state r) leaves other.own.spine;
      };
      names = names_stand_with_words heap state.words words leaves.spines (graph_of heap book.history) book.made book.owner book.fragments book.spines book.spine_owner r (seat_at state r) other.names;
      told = other.told;
      cycle = seat_in_cycle_stays heap state.words words book.owner book.owner book.colour book.colour (phase book.history) (last_answer r book.history) (has_left r book.history) r (seat_at state r)
          (leaves_cycle_after_store heap state.words book.owner book.colour (phase book.history) f part word within fits_part unborn r (omega (arith, below, rule.machine.limits.seats_fit)))
          (watched_is_born heap state book rule r below) other.cycle;
    })
    (marks_go_on_off_way heap state book rule number here words book (seat_after (store_move number seat) found) (leaves_marking_when_stored heap state book rule f part word within fits_part unborn) refl refl tt)
    (space_stands_after_step heap state book number rule here words (seat_after (store_move number seat) found) book leaves stays.weights (same_grants_recoloured heap book book.colour book.begun) (λ x dark. dark))
    (book_goes_on_with_history heap state book book.history book.begun)

-- all that is asked of it
pub step_kind_of_storing : StepKind (points.Making Storing)
step_kind_of_storing = step_kind_of_way (points.Making Storing) (λ heap. store_move) (λ heap number seat. refl) (λ e. cc e) (λ heap number seat. tt) (λ heap number seat words found. refl) record {
  keeps = store_keeps;
  stays = λ heap number seat found point_is. record { looks = refl; elsewhere = tt };
  comes = λ heap number seat found. comes_from_usual _ (after_store seat).point (store_point_is_usual (seat.stored + 1) seat.body);
  words = record {
    bears = λ heap state book rule number here f within unborn. birth_colour_where_none_borne (points.Making Storing) (λ heap. store_move) (λ heap number seat. refl) heap state book rule number f within unborn (beside (λ g below e. omega (arith, e, below)));
    stores = λ heap number seat is. inl refl;
    there = λ heap state book rule number here point_is low. low;
  };
  found = λ heap state book number stands here point_is. tt;
}
