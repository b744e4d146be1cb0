-- What a birth leaves of the heap's standing in a cycle: its fragments get the colour of the seat's births.
use Rattle.std.proofs.Common.{◌≡◌, ℕ, ◌*◌, ◌<◌, ◌≤◌, Bool, List, length, bit_or, ap, ◌∙◌, sym, subst, arith, ◌+◌}
use Rattle.core_rule.proofs.Terms.{Heap, phase, Control, Bearing, HasBody, SpineIsListed, inside_group, outside_group, mask_of, tally, at, put, spine_place, spine_word, State, seat_at}
use Rattle.core_rule.proofs.Terms.{last_group_of, before_run, newborn_word_of, hand_run, birth_bits_of, Seat, spine_need, Book, Colour, fragment_at, IsMarked, IsBetween}
use Rattle.core_rule.proofs.Terms.{HeapInCycle, born_bit, Owner, Rule, SeatStands, HasPlace}
use Rattle.core_machine.specs.declared.point.Point.TheVariants as points
use Rattle.core_machine.specs.Moves.{bears_black_of}
use Rattle.core_rule.specs.owners.Owners.{Kept as KeptFragment}
use Rattle.core_rule.proofs.entries.AtRest.{seat_fits}
use Rattle.core_rule.proofs.colours.BirthAhead.{born_leads_to_born_or_marked}
use Rattle.core_rule.proofs.colours.Births.{birth_colour, AreBorne, are_borne_as_seat_bears}
use Rattle.core_rule.proofs.colours.BirthColours.{painted, born_was_white, marked_stays_at_birth, coloured_after_birth, marks_after_birth}
use Rattle.core_rule.proofs.hand.ClaimOrder.{born_in_order, last_run_is_last_group, before_run_is_other_groups}
use Rattle.core_rule.proofs.hand.HandMoves.{hand_has_each_once, inside_group_fragment_is_taken}
use Rattle.core_rule.proofs.objects.LastBirth.{all_words_are_stored}
use Rattle.core_rule.proofs.colours.LeadsFrames.{led_before_control_write}
use Rattle.core_rule.proofs.cycle.MakingCycle.{phase_same_after_control}
use Rattle.core_rule.proofs.hand.MakingSeats.{making_bears_no_black, last_group_within_heap, listed_word_names_payload}

module _ (heap : Heap) (state : State) (book : Book) (number : ℕ) (rule : Rule heap state book) (here : number < heap.seats) (point : (seat_at state number).point ≡ points.Making Bearing) where
  abbrev seat : Seat
  seat = seat_at state number

  abbrev g : ℕ
  g = last_group_of seat.hand

  abbrev group_hand : List ℕ
  group_hand = inside_group g seat.hand

  abbrev pub words_born : List ℕ
  words_born = put heap state.words (Control g) (bit_or (at heap state.words (Control g)) (birth_bits_of (bears_black_of seat) (mask_of group_hand)))

  abbrev pub colours_born : ℕ → Colour
  colours_born = painted (birth_colour (bears_black_of seat)) book.colour group_hand

  stands : SeatStands heap state.words book number seat
  stands = rule.seats_stand number here

  at_point : HasBody seat × (0 < length seat.hand) × (length seat.hand ≤ length seat.body) × (seat.stored ≡ 4 * length seat.body) × SpineIsListed seat.command seat.spine seat.listed
  at_point = rw point at (seat_fits rule number here).at_point

  -- the group is the heap's, and the object's fragments are chosen
  pub born_group_within_heap : g < heap.groups
  born_group_within_heap = last_group_within_heap heap seat (seat_fits rule number here) at_point.1

  pub born_body_is_some : 1 ≤ length seat.body
  born_body_is_some = omega (arith, at_point.1, at_point.2)

  -- the last fragments of the hand are all that it has of the group, and the others are the rest
  pub hand_run_is_inside_last_group : hand_run seat ≡ group_hand
  hand_run_is_inside_last_group = last_run_is_last_group heap seat.cursor seat.tried seat.hand seat.body (seat_fits rule number here).hand.hand_within born_body_is_some stands.own.together

  pub before_run_is_outside_last_group : before_run seat.hand ≡ outside_group g seat.hand
  before_run_is_outside_last_group = before_run_is_other_groups heap seat.cursor seat.tried seat.hand seat.body (seat_fits rule number here).hand.hand_within born_body_is_some stands.own.together

  -- each word of the spine names a payload fragment
  pub spine_words_name_payload : (j : ℕ) → j < spine_need seat → at heap state.words (spine_place seat.spine j) ≡ spine_word (fragment_at seat.body (j + 1))
  spine_words_name_payload = listed_word_names_payload heap state.words book.spine_owner number seat stands.own.spine (λ an_array. subst (HasPlace seat) (sym point) an_array) at_point.0.makes.an_object at_point.4

  -- nothing of them was born
  unborn : (f : ℕ) → 1 ≤ tally f (group_hand) → born_bit (book.owner f) ≡ 0
  unborn f there = ap born_bit (inside_group_fragment_is_taken book.owner number seat.reserve seat.hand seat.body stands.own.holding g f there)

  -- what was marked stays so
  pub marked_stays_when_born : (f : ℕ) → IsMarked book.colour f → IsMarked colours_born f
  marked_stays_when_born = marked_stays_at_birth heap state.words words_born book.owner book.owner book.colour (group_hand) (bears_black_of seat) unborn rule.heap_stands.cycle.coloured.born

  -- the heap has its standing
  pub heap_in_cycle_after_birth : (later : ℕ → Owner) (fragments : ℕ → List ℕ) → ((f : ℕ) → born_bit (later f) ≡ born_bit (book.owner f) + tally f (group_hand))
      → (IsBetween 1 5 (phase book.history) → (f i k : ℕ) → later f ≡ KeptFragment i k → IsMarked colours_born f → IsMarked colours_born (fragment_at (fragments i) 0))
      → HeapInCycle heap words_born (phase book.history) later colours_born fragments
  heap_in_cycle_after_birth later fragments bears first =
      let cycle = rule.heap_stands.cycle in
      let black : Bool = bears_black_of seat in
      record {
        word = phase_same_after_control heap state.words _ g ∙ cycle.word;
        marks = marks_after_birth heap state.words book.colour g seat.hand black rule.machine.table born_group_within_heap (hand_has_each_once book.owner number seat.reserve seat.hand seat.body stands.own.holding)
            (born_was_white heap state.words words_born book.owner later book.colour (group_hand) black unborn cycle.coloured.born) cycle.marks;
        coloured = coloured_after_birth heap state.words words_born book.owner later book.colour (group_hand) black unborn cycle.coloured.born book.fragments fragments (phase book.history)
            (making_bears_no_black heap state book number Bearing rule here point) bears
            (λ f k x leads. led_before_control_write heap state.words g _ born_group_within_heap f k x leads)
            (λ dark. born_leads_to_born_or_marked heap state.words book.owner number seat rule.machine.limits here at_point.0 (seat_fits rule number here).hand stands.own.holding
            (all_words_are_stored heap state.words seat.body (newborn_word_of number seat) seat.stored at_point.3 stands.own.stored) spine_words_name_payload
            book.colour (subst (AreBorne book.owner book.colour number) dark (are_borne_as_seat_bears book.owner book.colour number seat stands.cycle.births))
            g (born_in_order heap seat.cursor seat.tried seat.hand seat.body (seat_fits rule number here).hand.hand_within born_body_is_some stands.own.together))
            first cycle.coloured;
      }
