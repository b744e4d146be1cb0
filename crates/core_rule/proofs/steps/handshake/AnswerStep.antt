-- The answer to a phase keeps the rule: it stands in the history, and so does the reply where a poll answers.
use Rattle.std.proofs.Common.{◌≡◌, ◌≢◌, ℕ, ◌<◌, List, [], ◌∷◌, ◌++◌, drop, inl, inr, refl, sym, ap, ◌∙◌, subst, arith, append_assoc, append-nil}
use Rattle.heap_model.specs.declared.command.Command.TheVariants as commands
use Rattle.core_rule.proofs.Terms.{SeenStands, Entry, Said, Answers, Heap, graph_of, graph_seat, Graph, Command, put, State, seat_at, Move, Seat, call_over, with_entries, Book, CountsAgree}
use Rattle.core_rule.proofs.Terms.{Rule, HeapStands, SeatStands, taken_of, spent_of}
use Rattle.heap_model.specs.declared.reply.Reply.TheVariants as replies
use Rattle.core_machine.specs.declared.table.address.Address.TheVariants.{Answer}
use Rattle.core_machine.specs.declared.point.Point.TheVariants as points
use Rattle.core_machine.specs.declared.point.Polling.TheVariants.{Answering}
use Rattle.core_machine.specs.seat.HandshakeMoves.{answer_move, phase_told}
use Rattle.core_machine.specs.seat.Handshake.{polling_over}
use Rattle.core_machine.specs.declared.seat.looks.Looks.{Looks}
use Rattle.core_machine.specs.seat.Looks.{forgotten}
use Rattle.core_machine.specs.Move.{plain_move}
use Rattle.core_machine.specs.declared.step.Step.TheVariants as steps
use Rattle.core_machine.specs.declared.step.HandshakeStep.TheVariants.{AnswerStore}
use Rattle.core_rule.proofs.spines.OtherWords.{leaves_spines_after_answer}
use Rattle.core_rule.proofs.entries.AnswerEntries.{graph_same_after_reply, accepts_reply, keeps_space_of_reply}
use Rattle.core_rule.proofs.book.BookGoing.{book_goes_on_with_history}
use Rattle.core_rule.proofs.steps.Assemble.{keeps_rule_after_step, space_stands_after_step, MoveKeeps, StepKeeps}
use Rattle.core_rule.proofs.entries.PhasesTold.{command_polls_or_collects}
use Rattle.core_rule.proofs.entries.AtRest.{spent_within_taken, taken_is_few_unspent}
use Rattle.core_rule.proofs.cycle.CycleHistory.{seat_in_cycle_after_own}
use Rattle.core_rule.proofs.hand.Bodies.{bare_seat_holds_reserve}
use Rattle.core_rule.proofs.hand.EmptyHand.{gathers_right_unbegun}
use Rattle.core_rule.proofs.entries.InFlight.{began_idle_after_reply, began_after_entry}
use Rattle.heap_model.proofs.graph_changes.OwnGraphs.{seat_is_not_other}
use Rattle.core_rule.proofs.entries.OwnEntries.{own_list_grows, counts_agree_after_own}
use Rattle.core_rule.proofs.entries.PhaseEntries.{reply_is_no_leave}
use Rattle.core_rule.proofs.frames.Replying.{heap_stands_after_reply, other_seat_stands_after_reply, same_grants_after_reply}
use Rattle.heap_model.proofs.graph_changes.Shapes.{SameNodes, same_nodes_of_equal}
use Rattle.core_rule.proofs.frames.SeatFrames.{with_entry}
use Rattle.core_rule.proofs.budgets.BudgetFrames.{same_grants_twice}
use Rattle.core_rule.proofs.budgets.NoneMade.{same_weights_where_none_made}
use Rattle.core_rule.proofs.steps.StepKinds.{StepKind, beside, shows_answer, looks_follow_answer, looks_go_at_answer, comes_from_usual, polling_over_is_usual, on_words_of_plain_step}
use Rattle.core_rule.proofs.steps.handshake.AnswerTold.{answering_seat_stands, answering_is_at_rest, seat_is_answering, asks_near_phase, answering_has_not_left, seat_number_is_small, answer_is_own_entry, middle_graph_is_same, asked_is_next_answer, heap_stands_in_middle, answering_makes_none, same_grants_in_middle, seat_in_cycle_after_answer, own_stands_after_answer, answering_registers_hold_values, own_list_in_middle, other_seat_stands_in_middle, marks_go_on_after_answer}

-- the answer of a call of this command
abbrev answering : ℕ → Seat → Command → Move
answering number seat command = plain_move (steps.Handshake (AnswerStore number seat.asked)) (λ found. polling_over command (record seat { answered = seat.asked }))
    (λ found. Answers number seat.asked ∷ phase_told number command seat.asked)

module _ (heap : Heap) (state : State) (book : Book) (number : ℕ) (rule : Rule heap state book) (here : number < heap.seats) (point : (seat_at state number).point ≡ points.Polling Answering) where
  abbrev seat : Seat
  seat = seat_at state number

  abbrev p : ℕ
  p = seat.asked

  abbrev words : List ℕ
  words = put heap state.words (Answer number) p

  -- the seat once the call is over
  abbrev ended : Looks → List Entry → Seat
  ended looks added = with_entries (record (call_over (record seat { answered = p })) { looks = looks }) added

  -- the answer's entry
  abbrev first : Entry
  first = Answers number p

  abbrev middle : Book
  middle = with_entry book first

  abbrev g : Graph
  g = graph_of heap book.history

  own_seen : SeenStands g number seat.seen
  own_seen = rw point at (answering_seat_stands heap state book number rule here point).told.counts.seen

  -- the answer of a collect is told alone
  collect_kept : MoveKeeps heap state book number (answering number seat commands.Collect)
  collect_kept machine =
      let now : Seat = ended seat.looks (first ∷ []) in
      keeps_rule_after_step heap state book number words now middle (first ∷ []) rule here machine refl refl (heap_stands_in_middle heap state book number rule here point)
      record {
        own = (own_stands_after_answer heap state book number rule here point) seat.looks (first ∷ []);
        names = record { registers = rw (middle_graph_is_same heap state book number rule here point) (λ i awake. (answering_registers_hold_values heap state book number rule here point) i); way = tt; address = tt };
        told = record {
          list = record { awaited = []; own = append-nil now.mine ∙ (own_list_in_middle heap state book number rule here point); awaits = refl };
          counts = counts_agree_after_own g (graph_of heap middle.history) book.history number seat now (answering_seat_stands heap state book number rule here point).told.counts first (answer_is_own_entry heap state book number rule here point)
              (rw (middle_graph_is_same heap state book number rule here point) (answering_seat_stands heap state book number rule here point).told.counts.numbered) (rw (middle_graph_is_same heap state book number rule here point) (answering_seat_stands heap state book number rule here point).told.counts.stamped) (rw (middle_graph_is_same heap state book number rule here point) own_seen) (rw (middle_graph_is_same heap state book number rule here point) (answering_seat_stands heap state book number rule here point).told.counts.leaves)
              (omega (arith, bare_seat_holds_reserve seat.reserve seat.hand seat.body (spent_of number book.history) (taken_of number book.history) (answering_is_at_rest heap state book number rule here point).empty_hand (answering_is_at_rest heap state book number rule here point).no_body (answering_seat_stands heap state book number rule here point).told.counts.unborn, (answering_seat_stands heap state book number rule here point).told.counts.unborn));
          began = began_idle_after_reply book.history first number (book.begun number) seat.point (answering_seat_stands heap state book number rule here point).told.began;
          gathers = gathers_right_unbegun heap book.owner number (drop (book.begun number) middle.history) now.cursor 0 0 refl refl;
          used = tt;
        };
        cycle = (seat_in_cycle_after_answer heap state book number rule here point) seat.looks (first ∷ []);
      }
      (other_seat_stands_in_middle heap state book number rule here point) ((marks_go_on_after_answer heap state book number rule here point) middle.history seat.looks (first ∷ []))
      (space_stands_after_step heap state book number rule here words now middle (leaves_spines_after_answer heap state.words p number (seat_number_is_small heap state book number rule here point)) (same_weights_where_none_made seat now (answering_makes_none heap state book number rule here point) tt) (same_grants_in_middle heap state book number rule here point) (λ f dark. dark))
      (book_goes_on_with_history heap state book middle.history book.begun)

  -- and that of a poll with its reply
  abbrev second : Entry
  second = Said number commands.Poll (replies.Phase p)

  abbrev later : Book
  later = with_entry middle second

  abbrev now : Seat
  now = ended (forgotten seat.looks) (first ∷ second ∷ [])

  graph_then : graph_of heap later.history ≡ graph_of heap middle.history
  graph_then = graph_same_after_reply heap book number p commands.Poll refl

  nodes_then : SameNodes (graph_of heap middle.history) (graph_of heap later.history)
  nodes_then = same_nodes_of_equal (graph_of heap middle.history) (graph_of heap later.history) graph_then

  heap_later : HeapStands heap words later
  heap_later =
      heap_stands_after_reply heap words middle second refl nodes_then (accepts_reply heap book number p commands.Poll refl (answering_has_not_left heap state book number rule here point))
      (keeps_space_of_reply heap book number p commands.Poll refl (asks_near_phase heap state book number rule here point).now (asked_is_next_answer heap state book number rule here point) (spent_within_taken heap state book number rule here (answering_is_at_rest heap state book number rule here point)) (taken_is_few_unspent heap state book number rule here (answering_is_at_rest heap state book number rule here point))) (heap_stands_in_middle heap state book number rule here point)

  own_stands : SeatStands heap words later number now
  own_stands =
      let counts_middle : CountsAgree (graph_of heap middle.history) middle.history number seat
      = counts_agree_after_own g (graph_of heap middle.history) book.history number seat seat (answering_seat_stands heap state book number rule here point).told.counts first (answer_is_own_entry heap state book number rule here point)
      (rw (middle_graph_is_same heap state book number rule here point) (answering_seat_stands heap state book number rule here point).told.counts.numbered) (rw (middle_graph_is_same heap state book number rule here point) (answering_seat_stands heap state book number rule here point).told.counts.stamped) (rw (middle_graph_is_same heap state book number rule here point) (answering_seat_stands heap state book number rule here point).told.counts.seen) (rw (middle_graph_is_same heap state book number rule here point) (answering_seat_stands heap state book number rule here point).told.counts.leaves) (omega arith) in
      record {
        own = (own_stands_after_answer heap state book number rule here point) (forgotten seat.looks) (first ∷ second ∷ []);
        names = record { registers = rw (graph_then ∙ (middle_graph_is_same heap state book number rule here point)) (λ i awake. (answering_registers_hold_values heap state book number rule here point) i); way = tt; address = tt };
        told = record {
          list = record {
            awaited = [];
            own = append-nil now.mine ∙ sym (append_assoc seat.mine (first ∷ []) (second ∷ []))
                ∙ own_list_grows number middle.history (seat.mine ++ first ∷ []) second (answer_is_own_entry heap state book number rule here point) (own_list_in_middle heap state book number rule here point);
            awaits = refl;
          };
          counts = counts_agree_after_own (graph_of heap middle.history) (graph_of heap later.history) middle.history number seat now counts_middle second (answer_is_own_entry heap state book number rule here point)
              (rw graph_then counts_middle.numbered) (rw graph_then counts_middle.stamped) (rw (graph_then ∙ middle_graph_is_same heap state book number rule here point) own_seen) (rw graph_then counts_middle.leaves)
              (omega (arith, bare_seat_holds_reserve seat.reserve seat.hand seat.body (spent_of number middle.history) (taken_of number middle.history) (answering_is_at_rest heap state book number rule here point).empty_hand (answering_is_at_rest heap state book number rule here point).no_body counts_middle.unborn));
          began = began_idle_after_reply middle.history second number (book.begun number) seat.point (began_after_entry book.history first number (book.begun number) seat.point seat.point refl (λ busy. busy) (answering_seat_stands heap state book number rule here point).told.began);
          gathers = gathers_right_unbegun heap book.owner number (drop (book.begun number) later.history) now.cursor 0 0 refl refl;
          used = tt;
        };
        cycle = seat_in_cycle_after_own heap words book.owner book.colour middle.history second refl number now ((seat_in_cycle_after_answer heap state book number rule here point) (forgotten seat.looks) (first ∷ second ∷ [])) refl
            (reply_is_no_leave number number commands.Poll (replies.Phase p) (λ leaves. cc leaves));
      }

  other_stands : (r : ℕ) → r < heap.seats → r ≢ number → SeatStands heap state.words book r (seat_at state r) → SeatStands heap words later r (seat_at state r)
  other_stands r below apart other =
      other_seat_stands_after_reply heap words middle second refl nodes_then r (seat_at state r) (seat_is_not_other number r apart) (ap (λ (x : Graph). graph_seat x r) graph_then) ((other_seat_stands_in_middle heap state book number rule here point) r below apart other)

  poll_kept : MoveKeeps heap state book number (answering number seat commands.Poll)
  poll_kept machine = keeps_rule_after_step heap state book number words now later (first ∷ second ∷ []) rule here machine (append_assoc book.history (first ∷ []) (second ∷ [])) refl heap_later own_stands other_stands
      ((marks_go_on_after_answer heap state book number rule here point) later.history (forgotten seat.looks) (first ∷ second ∷ []))
      (space_stands_after_step heap state book number rule here words now later (leaves_spines_after_answer heap state.words p number (seat_number_is_small heap state book number rule here point)) (same_weights_where_none_made seat now (answering_makes_none heap state book number rule here point) tt)
      (same_grants_twice heap book middle later (same_grants_in_middle heap state book number rule here point) (same_grants_after_reply heap words middle second refl nodes_then refl)) (λ f dark. dark))
      (book_goes_on_with_history heap state book later.history book.begun)

  -- so each answer keeps the rule
  pub answer_kept : MoveKeeps heap state book number (answer_move number seat)
  answer_kept = elim (command_polls_or_collects seat.command (seat_is_answering heap state book number rule here point).0.polls) as (λ _. MoveKeeps heap state book number (answer_move number seat)) [
    | inl polls ↦ subst (λ c. MoveKeeps heap state book number (answering number seat c)) (sym polls) poll_kept
    | inr collects ↦ subst (λ c. MoveKeeps heap state book number (answering number seat c)) (sym collects) collect_kept
  ]

pub answer_keeps : StepKeeps (points.Polling Answering) (λ heap. answer_move)
answer_keeps heap state book number rule here point = answer_kept heap state book number rule here point

-- all that is asked of it
pub step_kind_of_answering : StepKind (points.Polling Answering)
step_kind_of_answering = record {
  keeps = λ heap state book number rule here looks. answer_keeps heap state book number rule here;
  shows = λ heap state number. shows_answer refl;
  looks = record {
    follows = λ heap state number seat compares point_is. looks_follow_answer heap state number seat _ tt seat.asked;
    goes = λ heap state book rule number point_is. looks_go_at_answer heap state book rule number (seat_at state number).command _ _ _ (λ named. cc (point_is, named));
    comes = λ heap number seat found point_is.
        comes_from_usual _ (polling_over seat.command (record seat { answered = seat.asked })).point (polling_over_is_usual seat.command (record seat { answered = seat.asked }));
  };
  words = on_words_of_plain_step (points.Polling Answering) (λ heap. answer_move) (λ heap number seat. refl) (λ heap number seat is. is) (λ heap number seat low. low)
      (λ heap state book rule number here. beside (λ g below e. omega (arith, e, here, rule.machine.limits.seats_fit)));
  found = λ heap state book number stands here point_is. tt;
}
