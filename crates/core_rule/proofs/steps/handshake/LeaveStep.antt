-- A seat's leave keeps the rule.
use Rattle.std.proofs.Common.{◌≡◌, ℕ, zero, suc, ◌^◌, ◌<◌, true, false, List, [], length, map, get_or, replicate, refl, sym, ap, ◌∙◌, subst, arith}
use Rattle.std.proofs.lemmas.Bool.{eq-eqb}
use Rattle.std.proofs.lemmas.List.Elements.{All-replicate}
use Rattle.heap_words.specs.declared.phase.TheConstants.{LEFT}
use Rattle.heap_model.specs.declared.command.Command.TheVariants as commands
use Rattle.core_rule.proofs.Terms.{Entry, Value, leave, graph_of, after_reply, graph_seat, phase, is_leave_of, Graph, IsAtRest, at, put, seat_at, Seat, Objects, IsReached, unset}
use Rattle.core_rule.proofs.Terms.{Register, register_head}
use Rattle.heap_model.specs.declared.entry.Entry.TheVariants as entries
use Rattle.heap_model.specs.declared.id.Value.TheVariants as values
use Rattle.heap_model.specs.declared.reply.Reply.TheVariants as replies
use Rattle.heap_model.specs.Command.{IsCommand}
use Rattle.heap_model.specs.account.Phases.{ShowsPhases}
use Rattle.heap_model.specs.graph.Replies.{Says}
use Rattle.heap_model.specs.graph.Graph.{GraphSeat}
use Rattle.core_machine.specs.declared.table.address.Address.TheVariants.{Answer}
use Rattle.core_machine.specs.declared.point.Leaving.TheVariants.{Parting}
use Rattle.core_machine.specs.declared.point.Point.TheVariants as points
use Rattle.core_machine.specs.declared.seat.register.Register.TheVariants as registers
use Rattle.core_machine.specs.seat.HandshakeMoves.{leave_move}
use Rattle.core_machine.specs.Moves.{seat_after}
use Rattle.core_machine.proofs.table_lemmas.Addresses.{at-put_same}
use Rattle.core_rule.specs.graph.Registers as regs
use Rattle.core_rule.proofs.colours.LeadsFrames.{same_sources_ahead}
use Rattle.core_rule.proofs.spines.OtherWords.{leaves_spines_after_answer}
use Rattle.std.specs.Prelude.{IfSome}
use Rattle.core_rule.proofs.frames.SeatFrames.{with_entry}
use Rattle.core_rule.proofs.marking.Marks.{MarksGoOn, Leaves, leaves_by_same_sources, marking_stands_after_step, reached_after_step}
use Rattle.core_rule.proofs.cycle.AnswerWords.{same_fragments_after_answer, heap_in_cycle_after_answer, leaves_cycle_after_answer}
use Rattle.core_rule.proofs.steps.Assemble.{StepKeeps}
use Rattle.core_rule.proofs.entries.AtRest.{seat_fits, in_flight_has_not_left, reserve_and_spent_is_taken, spent_within_taken}
use Rattle.core_rule.proofs.frames.EntryFrames.{SameFragments}
use Rattle.heap_model.proofs.graph_changes.GraphSeats.{SeatChanges, party_with_seat_is_new, seat_changes_with_seat}
use Rattle.core_rule.proofs.entries.Legality.{legal_after_entry, keeps_space_of_plain_said}
use Rattle.core_rule.proofs.objects.ObjectFrames.{objects_with_same_words}
use Rattle.core_rule.proofs.entries.PhaseEntries.{phase_stays, answered_stays, left_after_leave}
use Rattle.core_rule.proofs.steps.ReplyStep.{keeps_in_cycle_when_idle, graph_replies_of_registers}
use Rattle.core_rule.proofs.entries.SeatLists.{own_list_is_all_told}
use Rattle.core_rule.proofs.steps.StepKinds.{StepKind, beside, shows_plain, on_looks_of_reply, on_words_of_plain_step}
use Rattle.heap_model.specs.declared.graph.cell.Cell.{Cell}

-- each register of such a list is nil
all_nil : {A : Type 0} (x : A) (n i : ℕ) → get_or (replicate n x) i x ≡ x
all_nil x zero i = refl
all_nil x (suc n) zero = refl
all_nil x (suc n) (suc i) = all_nil x n i

-- the party that has left
abbrev gone : Graph → ℕ → GraphSeat
gone g number = record (graph_seat g number) { registers = replicate 16 unset; left = true }

-- a leave keeps the rule
pub leave_keeps : StepKeeps (points.Leaving Parting) (λ heap. leave_move)
leave_keeps heap state book number rule here point machine =
    let seat : Seat = seat_at state number in
    let g : Graph = graph_of heap book.history in
    let words : List ℕ = put heap state.words (Answer number) LEFT in
    let stands = rule.seats_stand number here in
    let at_point : IsAtRest seat × (seat.command ≡ commands.Leave) × (seat.reserve ≡ []) = rw point at (seat_fits rule number here).at_point in
    let present : (graph_seat g number).left ≡ false = stands.told.counts.leaves ∙ in_flight_has_not_left rule number here (λ idle. absurd (cc (point, idle))) in
    let small : number < 16 = omega (arith, here, rule.machine.limits.seats_fit) in
    let now : Graph = after_reply g number seat.command replies.Done in
    let grown : now ≡ leave g number = ap (λ c. after_reply g number c replies.Done) at_point.1 in
    let changes : SeatChanges g now number = rw grown (seat_changes_with_seat g number (gone g number) present refl refl) in
    let party_now : graph_seat now number ≡ gone g number = ap (λ x. graph_seat x number) grown ∙ party_with_seat_is_new g number (gone g number) present in
    let empty : length seat.reserve ≡ 0 = ap length at_point.2 in
    let same : SameFragments heap state.words words = same_fragments_after_answer heap state.words number LEFT small in
    let objects : Objects heap words g book.made book.owner book.fragments book.spines
    = objects_with_same_words heap state.words words g book.made book.owner book.fragments book.spines (λ f i k part is within. same.parts f part) (λ i j below is within. same.spines.spines _ _) rule.heap_stands.objects in
    let left : Entry = entries.Said number seat.command replies.Done in
    let leaves : is_leave_of number left ≡ true = ap (λ c. is_leave_of number (entries.Said number c replies.Done)) at_point.1 ∙ eq-eqb number number refl in
    let told = stands.cycle.answers_told in
    keeps_in_cycle_when_idle heap state book number words (seat_after (leave_move number seat) (at heap state.words (Answer number))) seat.command replies.Done rule here machine
    refl (rw point tt) at_point.0 (own_list_is_all_told stands.told.list (rw point at stands.told.list.awaits))
    (legal_after_entry heap false book.history (entries.Said number seat.command replies.Done) rule.heap_stands.legal
    (present, subst IsCommand (sym at_point.1) tt, subst (λ c. Says g number c replies.Done) (sym at_point.1) refl)
    (keeps_space_of_plain_said heap false book.history number seat.command replies.Done refl tt tt (subst (λ c. ShowsPhases heap false book.history number c replies.Done) (sym at_point.1) tt)
    (spent_within_taken heap state book number rule here at_point.0) (omega (arith, empty, reserve_and_spent_is_taken heap state book number rule here at_point.0))))
    record { controls = same.controls; unkept = λ f part free within. same.parts f part; spines = leaves_spines_after_answer heap state.words LEFT number small }
    (graph_replies_of_registers g now number changes heap words book rule.heap_stands.ids objects)
    record {
      idle = refl;
      reserve = refl;
      mine = refl;
      made = stands.told.counts.numbered ∙ sym changes.objects;
      sets = stands.told.counts.stamped ∙ sym changes.sets;
      left = ap (λ (p : GraphSeat). p.left) party_now;
      seen = record { stamps = ap (λ (p : GraphSeat). map (λ (cell : Cell). cell.stamp) p.registers) (sym party_now); small = All-replicate (λ stamp. stamp < 2 ^ 32) 16 0 (omega arith) };
      registers = λ i. all_holds i (ap (λ (p : GraphSeat). (get_or p.registers i unset).value) party_now ∙ ap (λ (register : Cell). register.value) (all_nil unset 16 i));
    }
    (heap_in_cycle_after_answer heap state.words number LEFT small (phase book.history) book.owner book.colour book.fragments rule.heap_stands.cycle)
    record {
      answers_told = record {
        told = answered_stays book.history left number refl ∙ told.told;
        leaves = left_after_leave book.history left number leaves;
        word = at-put_same heap state.words (Answer number) LEFT rule.machine.table small;
        near = λ present. absurd (cc present);
        loaded = omega (arith, told.loaded, phase_stays book.history left refl);
      };
      answer = tt;
      flight = record { set = λ marking snapped. tt; shaded = λ marking. tt; roots = λ begins. tt };
      births = stands.cycle.births;
    }
    (λ r below apart. leaves_cycle_after_answer heap state.words number LEFT small book.owner book.colour (phase book.history) r apart)
    (marks_on small left)
  where
    -- no register holds an object then
    marks_on : number < 16 → (left : Entry) → MarksGoOn heap state book (with_entry book left) (put heap state.words (Answer number) LEFT)
        (seat_after (leave_move number (seat_at state number)) (at heap state.words (Answer number)))
    marks_on small left =
        let leaves : Leaves heap state book rule (put heap state.words (Answer number) LEFT) (with_entry book left)
        = leaves_by_same_sources heap state book rule (put heap state.words (Answer number) LEFT) (same_sources_ahead heap state.words (Answer number) LEFT (omega (arith, small))) in
        record {
          heap_on = marking_stands_after_step heap state book rule (put heap state.words (Answer number) LEFT) (with_entry book left) leaves;
          reached_on = reached_after_step heap state book rule (put heap state.words (Answer number) LEFT) (with_entry book left) leaves;
          own_on = λ marks answered. record {
            registers = λ r. subst (λ (h : Register). IfSome (register_head h) (IsReached heap (put heap state.words (Answer number) LEFT) book.owner book.colour)) (sym (all_nil registers.Nil 16 r)) tt;
            call = tt;
          };
        }

    all_holds : (i : ℕ) {value : Value} → value ≡ values.Nil → regs.HoldsValue book.made book.owner book.fragments (get_or (replicate 16 registers.Nil) i registers.Nil) value
    all_holds i {value} is = subst (λ h. regs.HoldsValue book.made book.owner book.fragments h value) (sym (all_nil registers.Nil 16 i)) is

-- all that is asked of it
pub step_kind_of_parting : StepKind (points.Leaving Parting)
step_kind_of_parting = record {
  keeps = λ heap state book number rule here looks. leave_keeps heap state book number rule here;
  shows = λ heap state number. shows_plain number (seat_at state number) (points.Leaving Parting) _ tt;
  looks = on_looks_of_reply (points.Leaving Parting) (λ heap. leave_move) (λ seat found. replies.Done) (λ heap number seat. refl) (λ heap number seat. tt)
      (λ heap number seat found. refl) (λ heap number seat found. refl) (λ heap number seat words found. refl);
  words = on_words_of_plain_step (points.Leaving Parting) (λ heap. leave_move) (λ heap number seat. refl) (λ heap number seat is. is) (λ heap number seat low. low)
      (λ heap state book rule number here. beside (λ g below e. omega (arith, e, here, rule.machine.limits.seats_fit)));
  found = λ heap state book number stands here point_is. tt;
}
