-- A poll's load keeps the rule: its reply stands there where the seat has answered the phase, and else it goes on to answer it.
use Rattle.std.specs.Prelude.{if◌then◌else◌, nat_lt}
use Rattle.std.proofs.Common.{◌≡◌, ◌≢◌, ℕ, ◌+◌, ◌<◌, ◌==◌, true, false, Bool, [], ◌∷◌, length, filter, slice_set, inl, inr, refl, sym, ◌∙◌, subst, arith}
use Rattle.std.proofs.lemmas.Bool.Decides.{eqb_tells}
use Rattle.std.proofs.lemmas.List.{append-nil}
use Rattle.heap_model.specs.declared.command.Command.TheVariants as commands
use Rattle.heap_model.specs.declared.entry.Entry.TheVariants as entries
use Rattle.core_rule.proofs.Terms.{Heap, graph_of, is_of, phase, last_answer, has_left, Graph, target_of, IsAtRest, IsSilent, at, put, State, seat_at, Seat, with_seen}
use Rattle.core_rule.proofs.Terms.{with_entries, after_call, IsMachine, Book, SeatInCycle, Asks, PollingStands, IsReached, Rule, SeatStands, IsAwaited, Command}
use Rattle.heap_model.specs.declared.reply.Reply.TheVariants as replies
use Rattle.heap_model.specs.Command.{IsCommand}
use Rattle.core_machine.specs.declared.table.address.Address.TheVariants.{Phase}
use Rattle.core_machine.specs.declared.point.Point.TheVariants as points
use Rattle.core_machine.specs.declared.point.Polling.TheVariants.{Asking, Shading, Answering}
use Rattle.core_machine.specs.seat.HandshakeMoves.{poll_move, phase_told}
use Rattle.core_machine.specs.seat.Fits.{AnswersThePhase}
use Rattle.core_machine.specs.seat.Handshake.{roots, answer_next, polling_over, after_phase_load}
use Rattle.core_machine.specs.seat.Looks.{seen_phase}
use Rattle.core_machine.proofs.table_lemmas.Addresses.{put_of_read_changes_nothing}
use Rattle.core_rule.proofs.budgets.BudgetFrames.{same_grants_recoloured}
use Rattle.core_rule.proofs.colours.SpineStays.{same_sources_of_itself}
use Rattle.core_rule.proofs.marking.Marks.{roots_hold_off_way, leaves_by_same_sources, marks_go_on_off_way}
use Rattle.core_rule.proofs.book.BookGoing.{book_goes_on_with_history}
use Rattle.core_rule.proofs.steps.Assemble.{Keeps, keeps_rule_after_step, space_stands_after_step, StepKeeps}
use Rattle.core_rule.proofs.roots.Roots.{roots_stand_at_answer}
use Rattle.core_rule.proofs.entries.AtRest.{seat_fits, in_flight_has_not_left, point_awaits_none}
use Rattle.core_rule.proofs.entries.InFlight.{began_without_entry}
use Rattle.core_rule.proofs.graph.LocalReplies.{IsLocalReply, HoldAll}
use Rattle.core_rule.proofs.steps.LocalStep.{keeps_rule_by_local_reply}
use Rattle.core_rule.proofs.entries.OwnEntries.{counts_agree_without_entry}
use Rattle.core_rule.proofs.entries.PhaseEntries.{reply_is_no_leave}
use Rattle.heap_model.proofs.graph_changes.PutRegister.{only_registers_of_itself}
use Rattle.core_rule.proofs.entries.SeatLists.{own_list_is_all_told}
use Rattle.core_rule.proofs.entries.PhasesTold.{command_polls_or_collects}
use Rattle.core_rule.proofs.budgets.NoneMade.{no_place_where_none_made, same_weights_where_none_made}
use Rattle.core_rule.proofs.spines.OtherWords.{leaves_spines_of_itself}
use Rattle.core_rule.proofs.spines.SpineFrames.{spine_in_hand_away}
use Rattle.core_rule.proofs.steps.QuietLoads.{keeps_rule_by_quiet_end}
use Rattle.core_rule.proofs.steps.StepKinds.{StepKind, only_loads, shows_poll, looks_follow_poll, looks_go_at_first_seen, looks_go_at_polling, comes_from_usual, phase_load_is_usual, tells_at_poll, on_words_of_plain_step}

-- the seat after the load, by whether it has answered the phase found
abbrev polled : ℕ → Command → Seat → ℕ → Bool → Seat
polled number command seat found same = with_entries (if same then polling_over command (with_seen found seat) else answer_next (record (with_seen found seat) { asked = found }))
    (if same then phase_told number command found else [])

abbrev polls : Heap → State → ℕ → Command → Bool → State
polls heap state number command same = record state {
  words = put heap state.words Phase (at heap state.words Phase);
  seats = slice_set state.seats number (polled number command (seat_at state number) (at heap state.words Phase) same);
}

-- a load of this kind keeps the rule
abbrev PollKeeps : Heap → State → Book → ℕ → Command → Bool → Type 0
PollKeeps heap state book number command same = IsMachine heap (polls heap state number command same)
    → Keeps heap state (polls heap state number command same) book book.begun (if same then phase_told number command (at heap state.words Phase) else [])

-- what is about to be answered, whether a root is shaded first or not
asks_at : (phase answer asked : ℕ) (b : Bool) → Asks phase answer asked → PollingStands phase answer asked (if b then Shading else Answering)
asks_at phase answer asked true asks = asks
asks_at phase answer asked false asks = asks

module _ (heap : Heap) (state : State) (book : Book) (number : ℕ) (rule : Rule heap state book) (here : number < heap.seats) (point : (seat_at state number).point ≡ points.Polling Asking) where
  abbrev seat : Seat
  seat = seat_at state number

  abbrev g : Graph
  g = graph_of heap book.history

  abbrev found : ℕ
  found = at heap state.words Phase

  stands : SeatStands heap state.words book number seat
  stands = rule.seats_stand number here

  rest : IsAtRest seat
  rest = rw point at (seat_fits rule number here).at_point

  asks : IsSilent seat × AnswersThePhase seat.command
  asks = rw point at (seat_fits rule number here).answer_at_point

  stays : seat.left ≡ false
  stays = in_flight_has_not_left rule number here (λ idle. absurd (cc (point, idle)))

  is_phase : found ≡ phase book.history
  is_phase = rule.heap_stands.cycle.word

  mine_told : seat.mine ≡ filter (is_of number) book.history
  mine_told = own_list_is_all_told stands.told.list (rw point at stands.told.list.awaits)

  holds : HoldAll heap book.history g number book.made book.owner book.fragments g seat.registers
  holds i = stands.names.registers i (point_awaits_none seat.point (points.Polling Asking) (target_of seat.command) i point (λ none. none))

  -- the seat has answered the phase: a poll tells it
  poll_tells : found ≡ seat.answered → seat.command ≡ commands.Poll → PollKeeps heap state book number commands.Poll true
  poll_tells same polls =
      let local : IsLocalReply heap book.history g number book.made book.owner book.fragments commands.Poll (replies.Phase found) seat.registers seat.seen
      = record {
        plain = record { none = refl; space = tt; spine = tt; phases = (is_phase, same ∙ sym stands.cycle.answers_told.told); most = refl };
        says = tt;
        only = only_registers_of_itself g number;
        registers = holds;
        seen_right = rw point at stands.told.counts.seen;
      } in
      let next = λ (c : Command). with_entries (after_call (with_seen found seat)) (entries.Said number c (replies.Phase found) ∷ []) in
      subst (λ c. IsMachine heap (record state { words = put heap state.words Phase found; seats = slice_set state.seats number (next c) })
      → Keeps heap state (record state { words = put heap state.words Phase found; seats = slice_set state.seats number (next c) }) book book.begun (entries.Said number c (replies.Phase found) ∷ [])) polls
      (λ machine. keeps_rule_by_local_reply heap state book number Phase (next seat.command) (replies.Phase found) rule here machine (rw point tt) rest mine_told (stands.told.counts.leaves ∙ stays)
      (subst IsCommand (sym polls) tt)
      (subst (λ c. IsLocalReply heap book.history g number book.made book.owner book.fragments c (replies.Phase found) seat.registers seat.seen) (sym polls) local)
      (reply_is_no_leave number number seat.command (replies.Phase found) (λ leaves. absurd (cc (leaves, polls))))
      record { idle = refl; reserve = refl; mine = refl; answered = refl; asked = sym asks.0.none_asked; made = refl; sets = refl; left = refl }
      (λ marks. roots_hold_off_way (IsReached heap state.words book.owner book.colour) seat (next seat.command) refl tt))

  -- and a collect doesn't
  collect_ends : PollKeeps heap state book number commands.Collect true
  collect_ends = keeps_rule_by_quiet_end heap state book number rule here Phase (seen_phase found seat.looks) (rw point tt) rest asks.0 (rw point (λ same. same)) (λ r awaited. subst (λ x. IsAwaited x (target_of seat.command) r) point awaited) mine_told

  -- it hasn't, so that it is one phase behind
  own_cycle : found ≢ seat.answered
      → SeatInCycle heap state.words (phase book.history) (last_answer number book.history) (has_left number book.history) book.owner book.colour number (polled number seat.command seat found false)
  own_cycle apart =
      let told = stands.cycle.answers_told in
      let next : found ≡ seat.answered + 1 = elim (told.near stays) [
        | inl same ↦ absurd (apart (is_phase ∙ sym same))
        | inr behind ↦ is_phase ∙ sym behind
      ] in
      record {
        answers_told = record { told = told.told; leaves = told.leaves; word = told.word; near = told.near; loaded = omega (arith, is_phase) };
        answer = asks_at (phase book.history) seat.answered found (nat_lt seat.shaded (length (roots (record seat { asked = found })))) record { now = is_phase; next = next };
        flight = record {
          set = λ making snapped. tt;
          shaded = λ running. tt;
          roots = λ begins. roots_stand_at_answer book.colour (record seat { asked = found }) begins (λ r before. absurd (omega (arith, before, asks.0.none_shaded)));
        };
        births = stands.cycle.births;
      }

  poll_goes : found ≢ seat.answered → PollKeeps heap state book number seat.command false
  poll_goes apart machine =
      let next : Seat = polled number seat.command seat found false in
      subst (λ words. IsMachine heap (record state { words = words; seats = slice_set state.seats number next })
      → Keeps heap state (record state { words = words; seats = slice_set state.seats number next }) book book.begun []) (sym (put_of_read_changes_nothing heap state.words Phase))
      (λ same. keeps_rule_after_step heap state book number state.words next book [] rule here same (sym (append-nil book.history)) refl rule.heap_stands
      record {
        own = record {
          holding = stands.own.holding;
          stored = stands.own.stored;
          together = stands.own.together;
          spine = spine_in_hand_away heap state.words state.words book.spine_owner number seat next (no_place_where_none_made seat seat.point (rw point tt)) (λ has. has) stands.own.spine;
        };
        names = record { registers = λ i awake. holds i; way = tt; address = tt };
        told = record {
          list = record { awaited = []; own = append-nil next.mine ∙ append-nil seat.mine ∙ mine_told; awaits = refl };
          counts = counts_agree_without_entry g book.history number seat next refl refl (rw point refl) refl refl stands.told.counts;
          began = began_without_entry book.history number (book.begun number) seat.point next.point (rw point (λ same. same)) stands.told.began;
          gathers = stands.told.gathers;
          used = tt;
        };
        cycle = own_cycle apart;
      }
      (λ r below apart other. other)
      (marks_go_on_off_way heap state book rule number here state.words book next (leaves_by_same_sources heap state book rule state.words (same_sources_of_itself heap state.words)) refl refl tt)
      (space_stands_after_step heap state book number rule here state.words next book (leaves_spines_of_itself heap state.words) (same_weights_where_none_made seat next (rw point tt) tt)
      (same_grants_recoloured heap book book.colour book.begun) (λ f dark. dark))
      (book_goes_on_with_history heap state book book.history book.begun)) machine

  poll_kept : PollKeeps heap state book number seat.command (found == seat.answered)
  poll_kept = elim (eqb_tells found seat.answered) as (λ _. PollKeeps heap state book number seat.command (found == seat.answered)) [
    | inl same ↦ subst (PollKeeps heap state book number seat.command) (sym same.0) (tells same.1)
    | inr apart ↦ subst (PollKeeps heap state book number seat.command) (sym apart.0) (poll_goes apart.1)
  ]
    where
      tells : found ≡ seat.answered → PollKeeps heap state book number seat.command true
      tells same = elim (command_polls_or_collects seat.command asks.1) as (λ _. PollKeeps heap state book number seat.command true) [
        | inl polls ↦ subst (λ c. PollKeeps heap state book number c true) (sym polls) (poll_tells same polls)
        | inr collects ↦ subst (λ c. PollKeeps heap state book number c true) (sym collects) collect_ends
      ]

-- a poll's load keeps the rule
pub poll_keeps : StepKeeps (points.Polling Asking) (λ heap. poll_move)
poll_keeps heap state book number rule here point = poll_kept heap state book number rule here point

-- all that is asked of it
pub step_kind_of_poll_asking : StepKind (points.Polling Asking)
step_kind_of_poll_asking = record {
  keeps = λ heap state book number rule here looks. poll_keeps heap state book number rule here;
  shows = λ heap state number. shows_poll number (seat_at state number) (points.Polling Asking) ((at heap state.words Phase) == (seat_at state number).answered) (at heap state.words Phase);
  looks = record {
    follows = λ heap state number seat compares point_is. looks_follow_poll heap state number seat ((at heap state.words Phase) == seat.answered) (at heap state.words Phase) refl;
    goes = λ heap state book rule number point_is. looks_go_at_first_seen heap state book rule number _ _ (λ other p comparing. cc (point_is, comparing))
        (looks_go_at_polling heap number book.history (with_seen (at heap state.words Phase) (seat_at state number)) ((at heap state.words Phase) == (seat_at state number).answered) (at heap state.words Phase) _ (λ named. cc (point_is, named)));
    comes = λ heap number seat found point_is. comes_from_usual _ (after_phase_load (with_seen found seat) found).point (phase_load_is_usual (with_seen found seat) found);
  };
  words = on_words_of_plain_step (points.Polling Asking) (λ heap. poll_move) (λ heap number seat. refl) (λ heap number seat is. is) (λ heap number seat low. low)
      (λ heap state book rule number here. only_loads (λ word. refl));
  found = λ heap state book number stands here point_is. tells_at_poll heap state book number stands here (λ idle. cc (point_is, idle));
}
