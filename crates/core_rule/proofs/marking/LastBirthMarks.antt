-- An object is born and kept: what that leaves of marking, which comes to its first fragment.
use Rattle.std.proofs.Common.{◌≡◌, ℕ, ◌<◌, ◌≤◌, ◌%◌, true, false, List, [], ◌∷◌, ◌++◌, length, inl, ap, ◌∙◌, arith, ◌*◌}
use Rattle.core_rule.proofs.Terms.{cycle_phases, Heap, Bearing, State, seat_at, made_entry, is_last_birth, last_birth_move, target_of, last_group_of, next_object_id, register_in}
use Rattle.core_rule.proofs.Terms.{register_head, Seat, HasBody, SpineIsListed, tally, inside_group, Book, Black, fragment_at, IsMarked, born_bit, IsReached, Rule}
use Rattle.heap_model.specs.PhasePlan.{marking as marking_phase}
use Rattle.core_machine.specs.declared.point.Point.TheVariants as points
use Rattle.core_machine.specs.Moves.{bears_black_of, seat_after}
use Rattle.core_rule.proofs.colours.BirthColours.{painted}
use Rattle.core_rule.proofs.colours.Births.{AreBorne, birth_colour, are_borne_as_seat_bears}
use Rattle.core_rule.proofs.colours.LastColours.{born_bit_after_last_birth, body_has_birth_colour}
use Rattle.core_rule.proofs.cycle.BirthCycle.{words_born, born_group_within_heap, born_body_is_some}
use Rattle.core_rule.proofs.entries.AtRest.{seat_fits, in_flight_has_not_left}
use Rattle.core_rule.proofs.marking.MakingMarks.{leaves_marking_when_kept, bears_black_while_marking, bears_white_when_answered}
use Rattle.core_rule.proofs.marking.Marks.{MarksGoOn, Leaves, marking_stands_after_step, reached_after_step}
use Rattle.core_rule.proofs.roots.RegisterRoots.{heads_hold_after_put}
use Rattle.core_rule.proofs.entries.MakingCommands.{made_command_in_range}
use Rattle.core_rule.proofs.hand.Bodies.{body_is_own}
use Rattle.core_rule.proofs.hand.HandMoves.{inside_group_fragment_is_taken}
use Rattle.core_rule.proofs.lists.Members.{element_is_tallied}
use Rattle.core_rule.proofs.lists.Options.{if_some_goes_on}
use Rattle.core_rule.proofs.objects.NamesGrowth.{old_number_is_not_new}
use Rattle.core_rule.proofs.objects.ObjectsGrowth.{with_spine}
use Rattle.core_rule.proofs.spines.SpineBirths.{born_words}
use Rattle.core_rule.proofs.owners.Keeping.{kept_by, with_object}
use Rattle.core_rule.proofs.owners.OwnerLemmas.{IsOwn, own_is_not_kept, own_is_not_dead}

-- the book after it: the object keeps its fragments and its spine, and has a number
abbrev pub book_born : Book → ℕ → Seat → Book
book_born book number seat = record book {
  history = book.history ++ made_entry number seat ∷ [];
  made = book.made ++ next_object_id number seat ∷ [];
  owner = kept_by (length book.made) seat.body book.owner;
  fragments = with_object book.fragments (length book.made) seat.body;
  spines = with_spine book.spines (length book.made) seat.spine;
  spine_owner = born_words number (length book.made) book.spine_owner;
  colour = painted (birth_colour (bears_black_of seat)) book.colour (inside_group (last_group_of seat.hand) seat.hand);
}

module _ (heap : Heap) (state : State) (book : Book) (number : ℕ) (rule : Rule heap state book) (here : number < heap.seats)
    (point : (seat_at state number).point ≡ points.Making Bearing) (last : is_last_birth (seat_at state number) ≡ true) (found : ℕ) where
  abbrev seat : Seat
  seat = seat_at state number

  abbrev now : Book
  now = book_born book number seat

  abbrev words : List ℕ
  words = words_born heap state book number rule here point

  at_point : HasBody seat × (0 < length seat.hand) × (length seat.hand ≤ length seat.body) × (seat.stored ≡ 4 * length seat.body) × SpineIsListed seat.command seat.spine seat.listed
  at_point = rw point at (seat_fits rule number here).at_point

  own : (f : ℕ) → 1 ≤ tally f seat.body → IsOwn number (book.owner f)
  own f there = body_is_own book.owner number seat.reserve seat.hand seat.body (rule.seats_stand number here).own.holding f there

  births : AreBorne book.owner book.colour number (bears_black_of seat)
  births = are_borne_as_seat_bears book.owner book.colour number seat (rule.seats_stand number here).cycle.births

  present : seat.left ≡ false
  present = in_flight_has_not_left rule number here (λ idle. absurd (cc (point, idle)))

  leaves : Leaves heap state book rule words now
  leaves =
      leaves_marking_when_kept heap state book rule (last_group_of seat.hand) _ (born_group_within_heap heap state book number rule here point) (length book.made) seat.body (inside_group (last_group_of seat.hand) seat.hand) (bears_black_of seat)
      (bears_black_while_marking heap state book rule number here present) (bears_white_when_answered heap state book rule number here present)
      (born_bit_after_last_birth book.owner book.colour number seat.reserve seat.hand seat.body (rule.seats_stand number here).own.holding (born_body_is_some heap state book number rule here point)
      (last_group_of seat.hand) (length book.made) last (bears_black_of seat) births)
      (λ f there. ap born_bit (inside_group_fragment_is_taken book.owner number seat.reserve seat.hand seat.body (rule.seats_stand number here).own.holding (last_group_of seat.hand) f there))
      (λ f i k there. own_is_not_kept number i k (book.owner f) (own f there)) (λ f i k there. own_is_not_dead number i k (book.owner f) (own f there))
      (λ f i k keeps. old_number_is_not_new book.made i (rule.heap_stands.objects.back f i k keeps).0)

  -- its first fragment is black then
  head_marked : state.collector.phase % cycle_phases ≡ marking_phase → IsMarked now.colour (fragment_at seat.body 0)
  head_marked third white =
      let black : now.colour (fragment_at seat.body 0) ≡ birth_colour (bears_black_of seat)
      = body_has_birth_colour book.owner book.colour number seat.reserve seat.hand seat.body (rule.seats_stand number here).own.holding (born_body_is_some heap state book number rule here point)
      (last_group_of seat.hand) (length book.made) last (bears_black_of seat) births (fragment_at seat.body 0) (element_is_tallied seat.body 0 (born_body_is_some heap state book number rule here point)) in
      let dark : now.colour (fragment_at seat.body 0) ≡ Black = black ∙ ap birth_colour (bears_black_while_marking heap state book rule number here present (record { from = omega (arith, third); upto = omega (arith, third) })) in
      absurd (cc (white, dark))

  -- so marking goes on
  pub marks_go_on_when_made : MarksGoOn heap state book now words (seat_after (last_birth_move number seat) found)
  marks_go_on_when_made = record {
    heap_on = marking_stands_after_step heap state book rule words now leaves;
    reached_on = reached_after_step heap state book rule words now leaves;
    own_on = λ marks answered. record {
      registers = heads_hold_after_put (IsReached heap words now.owner now.colour) seat.registers (target_of seat.command) _
          (omega (arith, (seat_fits rule number here).own.registers_whole, (made_command_in_range seat.command at_point.0.makes.an_object at_point.0.makes.in_range).1))
          (inl (head_marked marks.phase))
          (λ r. if_some_goes_on (IsReached heap state.words book.owner book.colour) (IsReached heap words now.owner now.colour) (reached_after_step heap state book rule words now leaves marks)
          (register_head (register_in seat.registers r)) ((rule.marks_stand.roots number here marks answered).registers r));
      call = tt;
    };
  }
