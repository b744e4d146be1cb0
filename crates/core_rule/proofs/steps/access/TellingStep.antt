-- Local the reply of a call that looks at no word keeps the rule.
use Rattle.std.proofs.Common.{◌≡◌, false, refl, ◌∙◌, subst, sym}
use Rattle.heap_model.specs.Command.{IsCommand}
use Rattle.core_rule.proofs.Terms.{graph_of, graph_seat, Graph, target_of, IsAtRest, IsSilent, IsLocal, at, seat_at, Seat, with_seen}
use Rattle.core_machine.specs.declared.table.address.Address.TheVariants.{Phase}
use Rattle.core_machine.specs.declared.point.Point.TheVariants as points
use Rattle.core_machine.specs.Moves.{local_move, seat_after}
use Rattle.core_machine.specs.seat.Local.{local_reply_of}
use Rattle.core_rule.proofs.steps.Assemble.{StepKeeps}
use Rattle.core_rule.proofs.entries.AtRest.{seat_fits, in_flight_has_not_left, point_awaits_none}
use Rattle.heap_model.proofs.graph_changes.GraphRegisters.{has_sixteen_registers}
use Rattle.core_rule.proofs.graph.LocalReplies.{computed_reply_is_local}
use Rattle.core_rule.proofs.roots.CallRoots.{IsReachedNow, roots_hold_when_over, local_heads_hold}
use Rattle.core_rule.proofs.steps.LocalStep.{keeps_rule_by_local_reply}
use Rattle.core_rule.proofs.entries.PhaseEntries.{reply_is_no_leave}
use Rattle.core_rule.proofs.entries.SeatLists.{own_list_is_all_told}
use Rattle.core_rule.proofs.steps.StepKinds.{StepKind, only_loads, shows_plain, local_reply_is_plain, looks_follow_phase_load, looks_go_at_first_seen, other_is_not_own, looks_go_at_end, tells_at_poll, on_words_of_plain_step}
use Rattle.core_machine.specs.seat.HandshakeMoves.{local_move}

-- telling such a reply keeps the rule
pub telling_keeps : StepKeeps points.Local (λ heap. local_move)
telling_keeps heap state book number rule here point machine =
    let seat : Seat = seat_at state number in
    let g : Graph = graph_of heap book.history in
    let stands = rule.seats_stand number here in
    let at_point : IsAtRest seat × IsCommand seat.command × IsLocal seat.registers seat.command = rw point at (seat_fits rule number here).at_point in
    let present : (graph_seat g number).left ≡ false = stands.told.counts.leaves ∙ in_flight_has_not_left rule number here (λ idle. absurd (cc (point, idle))) in
    let silent : IsSilent seat = rw point at (seat_fits rule number here).answer_at_point in
    keeps_rule_by_local_reply heap state book number Phase (seat_after (local_move number seat) (at heap state.words Phase)) (local_reply_of seat.registers seat.command) rule here machine
    (rw point tt) at_point.0 (own_list_is_all_told stands.told.list (rw point at stands.told.list.awaits)) present at_point.1
    (computed_reply_is_local heap book.history g number book.made book.owner book.fragments seat.registers present (seat_fits rule number here).own.registers_whole (has_sixteen_registers heap book.history number present)
    (λ i. stands.names.registers i (point_awaits_none seat.point points.Local (target_of seat.command) i point (λ none. none))) seat.seen (rw point at stands.told.counts.seen) seat.command at_point.1 at_point.2)
    (reply_is_no_leave number number seat.command (local_reply_of seat.registers seat.command) (λ leaves. subst (IsLocal seat.registers) leaves at_point.2))
    record { idle = refl; reserve = refl; mine = refl; answered = refl; asked = sym silent.none_asked; made = refl; sets = refl; left = refl }
    (λ marks roots. roots_hold_when_over (IsReachedNow heap state book) (seat_after (local_move number seat) (at heap state.words Phase)) tt
    (local_heads_hold (IsReachedNow heap state book) seat.registers (seat_fits rule number here).own.registers_whole roots.registers seat.command at_point.1 at_point.2))

-- all that is asked of it
pub telling_kind : StepKind points.Local
telling_kind = record {
  keeps = λ heap state book number rule here looks. telling_keeps heap state book number rule here;
  shows = λ heap state number.
      shows_plain number (seat_at state number) points.Local (local_reply_of (seat_at state number).registers (seat_at state number).command) (local_reply_is_plain (seat_at state number).registers (seat_at state number).command);
  looks = record {
    follows = λ heap state number seat compares point_is. looks_follow_phase_load heap state _ _ refl refl;
    goes = λ heap state book rule number point_is. looks_go_at_first_seen heap state book rule number _ _ (λ other p comparing. cc (point_is, comparing))
        (looks_go_at_end heap number book.history (with_seen (at heap state.words Phase) (seat_at state number)) _ _ refl refl (other_is_not_own number));
    comes = λ heap number seat found point_is. tt;
  };
  words = on_words_of_plain_step points.Local (λ heap. local_move) (λ heap number seat. refl) (λ heap number seat is. is) (λ heap number seat low. low)
      (λ heap state book rule number here. only_loads (λ word. refl));
  found = λ heap state book number stands here point_is. tells_at_poll heap state book number stands here (λ idle. cc (point_is, idle));
}
