-- The answer to a phase: what stands of the heap, of the seat and of the others once it is told.
use Rattle.std.proofs.Common.{◌≡◌, ◌≢◌, ℕ, ◌+◌, ◌%◌, ◌<◌, true, false, List, [], ◌∷◌, ◌++◌, length, filter, inl, refl, sym, ap, ◌∙◌, subst, arith}
use Rattle.std.proofs.lemmas.Bool.{eq-eqb}
use Rattle.core_rule.proofs.Terms.{cycle_phases, Entry, Answers, Heap, graph_of, is_of, graph_seat, register_value, phase, last_answer, has_left, Graph, target_of, IsAtRest, put}
use Rattle.core_rule.proofs.Terms.{State, seat_at, Seat, call_over, with_entries, Book, SeatInCycle, Asks, answer_word, Rule, HeapStands, OwnStands, SeatStands, HoldsValue}
use Rattle.core_rule.proofs.Terms.{IsMarked, RootsStand, WhilePolling, IsReached, register_in, register_head}
use Rattle.heap_model.specs.PhasePlan.{marking as marking_phase}
use Rattle.heap_model.specs.declared.command.Command.TheVariants as commands
use Rattle.core_machine.specs.declared.table.address.Address.TheVariants.{Answer}
use Rattle.core_machine.specs.declared.point.Point.TheVariants as points
use Rattle.core_machine.specs.declared.point.Polling.TheVariants.{Answering}
use Rattle.core_machine.specs.seat.Fits.{SeatIsAnswering as IsAnswering}
use Rattle.core_machine.specs.seat.Handshake.{roots}
use Rattle.core_machine.specs.declared.seat.looks.Looks.{Looks}
use Rattle.core_machine.proofs.table_lemmas.Addresses.{at-put_same}
use Rattle.core_rule.proofs.entries.ToldSpines.{seat_entry_tells_no_spine, same_told_after_entry}
use Rattle.core_rule.proofs.colours.LeadsFrames.{same_sources_ahead}
use Rattle.core_rule.proofs.lists.Options.{if_some_goes_on}
use Rattle.core_rule.proofs.marking.Marks.{MarksGoOn, Leaves, leaves_by_same_sources, marking_stands_after_step, reached_after_step}
use Rattle.core_rule.proofs.entries.AnswerEntries.{graph_same_after_answer, phase_same_after_answer, seat_has_answered_phase, keeps_space_of_answer}
use Rattle.core_rule.proofs.cycle.AnswerWords.{same_fragments_after_answer, heap_in_cycle_after_answer, leaves_cycle_after_answer}
use Rattle.core_rule.proofs.entries.AtRest.{seat_fits, in_flight_has_not_left, point_awaits_none}
use Rattle.core_rule.proofs.cycle.CycleFrames.{seat_in_cycle_stays}
use Rattle.core_rule.proofs.cycle.FieldFrames.{watched_is_born}
use Rattle.core_rule.proofs.cycle.CycleHistory.{heap_in_cycle_after_entry, seat_in_cycle_after_other}
use Rattle.core_rule.proofs.hand.EmptyHand.{together_where_empty, is_stored_where_none, holding_of_equal_hand}
use Rattle.core_rule.proofs.frames.EntryFrames.{SameFragments, UsesNothing, heap_stands_after_entry, other_seat_stands_after_entry, same_grants_after_entry}
use Rattle.core_rule.proofs.hand.HandMoves.{is_not_borne_by_seat}
use Rattle.core_rule.proofs.entries.Legality.{legal_after_entry}
use Rattle.heap_model.proofs.graph_changes.OwnGraphs.{seat_is_not_other}
use Rattle.core_rule.proofs.entries.OwnEntries.{own_list_grows}
use Rattle.core_rule.proofs.entries.PhaseEntries.{left_stays}
use Rattle.heap_model.proofs.graph_changes.Shapes.{SameNodes, same_nodes_of_equal}
use Rattle.core_rule.proofs.frames.SeatFrames.{with_entry}
use Rattle.core_rule.proofs.budgets.BudgetFrames.{SameGrants}
use Rattle.core_rule.proofs.budgets.NoneMade.{MakesNone, no_place_where_none_made}
use Rattle.core_rule.proofs.spines.SpineFrames.{spine_in_hand_away}
use Rattle.core_rule.proofs.entries.SeatLists.{own_list_is_all_told}

module _ (heap : Heap) (state : State) (book : Book) (number : ℕ) (rule : Rule heap state book) (here : number < heap.seats) (point : (seat_at state number).point ≡ points.Polling Answering) where
  abbrev pub seat : Seat
  seat = seat_at state number

  abbrev pub p : ℕ
  p = seat.asked

  abbrev pub words : List ℕ
  words = put heap state.words (Answer number) p

  -- the seat once the call is over
  abbrev pub ended : Looks → List Entry → Seat
  ended looks added = with_entries (record (call_over (record seat { answered = p })) { looks = looks }) added

  -- the answer's entry
  abbrev pub first : Entry
  first = Answers number p

  abbrev pub middle : Book
  middle = with_entry book first

  abbrev pub g : Graph
  g = graph_of heap book.history

  pub answering_seat_stands : SeatStands heap state.words book number seat
  answering_seat_stands = rule.seats_stand number here

  pub answering_is_at_rest : IsAtRest seat
  answering_is_at_rest = rw point at (seat_fits rule number here).at_point

  pub seat_is_answering : IsAnswering seat × (seat.shaded ≡ length (roots seat))
  seat_is_answering = rw point at (seat_fits rule number here).answer_at_point

  pub asks_near_phase : Asks (phase book.history) seat.answered p
  asks_near_phase = rw point at answering_seat_stands.cycle.answer

  pub stays : seat.left ≡ false
  stays = in_flight_has_not_left rule number here (λ idle. absurd (cc (point, idle)))

  pub answering_has_not_left : (graph_seat g number).left ≡ false
  answering_has_not_left = answering_seat_stands.told.counts.leaves ∙ stays

  pub seat_number_is_small : number < 16
  seat_number_is_small = omega (arith, here, rule.machine.limits.seats_fit)

  pub answer_is_own_entry : is_of number first ≡ true
  answer_is_own_entry = eq-eqb number number refl

  pub middle_graph_is_same : graph_of heap middle.history ≡ g
  middle_graph_is_same = graph_same_after_answer heap book number p commands.Poll refl

  pub asked_is_next_answer : p ≡ last_answer number book.history + 1
  asked_is_next_answer = omega (arith, asks_near_phase.next, answering_seat_stands.cycle.answers_told.told)

  pub same : SameFragments heap state.words words
  same = same_fragments_after_answer heap state.words number p seat_number_is_small

  pub nodes : SameNodes g (graph_of heap middle.history)
  nodes = same_nodes_of_equal g (graph_of heap middle.history) middle_graph_is_same

  pub uses : UsesNothing first
  uses = record { taken = refl; given = refl; freed = refl }

  pub heap_stands_in_middle : HeapStands heap words middle
  heap_stands_in_middle =
      heap_stands_after_entry heap state.words words same book first nodes uses
      (legal_after_entry heap false book.history first rule.heap_stands.legal answering_has_not_left (keeps_space_of_answer heap book number p commands.Poll refl asks_near_phase.now asked_is_next_answer))
      (heap_in_cycle_after_entry heap words book.owner book.colour book.history first refl book.fragments
      (heap_in_cycle_after_answer heap state.words number p seat_number_is_small (phase book.history) book.owner book.colour book.fragments rule.heap_stands.cycle)) rule.heap_stands

  -- no object is made, and as many spine words are granted
  pub answering_makes_none : MakesNone seat.point
  answering_makes_none = rw point tt

  pub same_grants_in_middle : SameGrants heap book middle
  same_grants_in_middle = same_grants_after_entry heap state.words words same book first nodes (same_told_after_entry book.history first (seat_entry_tells_no_spine first refl refl))

  pub seat_in_cycle_after_answer : (looks : Looks) (added : List Entry)
      → SeatInCycle heap words (phase middle.history) (last_answer number middle.history) (has_left number middle.history) book.owner book.colour number (ended looks added)
  seat_in_cycle_after_answer looks added = record {
    answers_told = record {
      told = seat_has_answered_phase heap book number p commands.Poll refl asks_near_phase.now asked_is_next_answer;
      leaves = left_stays book.history first number refl ∙ answering_seat_stands.cycle.answers_told.leaves;
      word = at-put_same heap state.words (Answer number) p rule.machine.table seat_number_is_small ∙ sym (ap (λ left. answer_word left p) stays);
      near = λ there. inl (asks_near_phase.now ∙ sym (phase_same_after_answer heap book number p commands.Poll refl));
      loaded = omega arith;
    };
    answer = tt;
    flight = record { set = λ marking snapped. tt; shaded = λ marking. tt; roots = λ begins. tt };
    births = record {
      dark = λ between f bears. absurd (is_not_borne_by_seat book.owner number seat.reserve seat.hand seat.body answering_is_at_rest.no_body answering_seat_stands.own.holding f bears);
      light = λ apart f bears. absurd (is_not_borne_by_seat book.owner number seat.reserve seat.hand seat.body answering_is_at_rest.no_body answering_seat_stands.own.holding f bears);
    };
  }

  pub own_stands_after_answer : (looks : Looks) (added : List Entry) → OwnStands heap words book.owner book.spine_owner number (ended looks added)
  own_stands_after_answer looks added = record {
    holding = holding_of_equal_hand book.owner number seat.reserve seat.hand seat.body seat.reserve [] [] refl (sym answering_is_at_rest.empty_hand) (sym answering_is_at_rest.no_body) answering_seat_stands.own.holding;
    stored = is_stored_where_none heap words number (ended looks added) refl;
    together = together_where_empty heap seat.cursor 0 [] [] refl refl;
    spine = spine_in_hand_away heap state.words words book.spine_owner number seat (ended looks added) (no_place_where_none_made seat seat.point answering_makes_none) (λ has. has) answering_seat_stands.own.spine;
  }

  pub answering_registers_hold_values : (i : ℕ) → HoldsValue book.made book.owner book.fragments (register_in seat.registers i) (register_value g number i)
  answering_registers_hold_values i = answering_seat_stands.names.registers i (point_awaits_none seat.point (points.Polling Answering) (target_of seat.command) i point (λ none. none))

  pub own_list_in_middle : seat.mine ++ first ∷ [] ≡ filter (is_of number) middle.history
  own_list_in_middle = own_list_grows number book.history seat.mine first answer_is_own_entry (own_list_is_all_told answering_seat_stands.told.list (rw point at answering_seat_stands.told.list.awaits))

  pub other_seat_stands_in_middle : (r : ℕ) → r < heap.seats → r ≢ number → SeatStands heap state.words book r (seat_at state r) → SeatStands heap words middle r (seat_at state r)
  other_seat_stands_in_middle r below apart other =
      let away = seat_is_not_other number r apart in
      other_seat_stands_after_entry heap state.words words same book first nodes r (seat_at state r) away (ap (λ (x : Graph). graph_seat x r) middle_graph_is_same)
      (seat_in_cycle_after_other heap words book.owner book.colour book.history first refl r (seat_at state r)
      (seat_in_cycle_stays heap state.words words book.owner book.owner book.colour book.colour (phase book.history) (last_answer r book.history) (has_left r book.history) r (seat_at state r)
      (leaves_cycle_after_answer heap state.words number p seat_number_is_small book.owner book.colour (phase book.history) r apart) (watched_is_born heap state book rule r below) other.cycle) away) other

  -- the registers' objects were marked before it, and marking goes on
  pub marks_go_on_after_answer : (history : List Entry) (looks : Looks) (added : List Entry) → MarksGoOn heap state book (record book { history = history }) words (ended looks added)
  marks_go_on_after_answer history looks added =
      let later : Book = record book { history = history } in
      let leaves : Leaves heap state book rule words later
      = leaves_by_same_sources heap state book rule words (same_sources_ahead heap state.words (Answer number) p (omega (arith, seat_number_is_small))) in
      record {
        heap_on = marking_stands_after_step heap state book rule words later leaves;
        reached_on = reached_after_step heap state book rule words later leaves;
        own_on = λ marks answered. record {
          registers = λ r. if_some_goes_on (IsMarked book.colour) (IsReached heap words book.owner book.colour) (λ f marked. inl marked) (register_head (register_in seat.registers r))
              (subst (WhilePolling (RootsStand book.colour seat)) point (answering_seat_stands.cycle.flight.roots (subst (λ x. x % cycle_phases ≡ marking_phase) (sym answered) marks.phase)) r);
          call = tt;
        };
      }
