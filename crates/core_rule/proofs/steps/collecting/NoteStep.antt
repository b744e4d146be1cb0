-- The reply of a collect keeps the rule: what it tells was found since the seat's last reply.
use Rattle.std.proofs.Common.{◌≡◌, ℕ, ◌+◌, ◌*◌, ◌<◌, ◌≤◌, Option, Some, None, IfSome, false, refl, sym, ◌∙◌, subst, arith}
use Rattle.heap_model.specs.Behind.{behind_of}
use Rattle.heap_model.specs.declared.calls.collect.CollectReply.{CollectReply}
use Rattle.heap_model.specs.declared.calls.collect.CollectReply.TheVariants.{Cycle, Waits}
use Rattle.heap_model.specs.declared.command.Command.TheVariants as commands
use Rattle.core_rule.proofs.Terms.{SeenStands, Heap, graph_of, phase, up_to_reply, Graph, graph_seat, State, seat_at, target_of, IsAtRest, IsSilent, Seat, with_seen, at, Book, IsAwaited, Rule}
use Rattle.heap_model.specs.Command.{IsCommand}
use Rattle.core_machine.specs.declared.point.Collecting.TheVariants.{Noting}
use Rattle.core_machine.specs.declared.point.Point.TheVariants as points
use Rattle.core_machine.specs.declared.table.address.Address.TheVariants.{Phase}
use Rattle.core_machine.specs.Moves.{seat_after}
use Rattle.core_machine.specs.seat.Collecting.{note_move}
use Rattle.core_machine.specs.seat.Looks.{FirstUpTo, MayNote, noted_reply}
use Rattle.core_rule.specs.looks.Looks.{WasSeen, WasFound, LooksStand}
use Rattle.core_rule.proofs.entries.AtRest.{seat_fits, in_flight_has_not_left}
use Rattle.core_rule.proofs.entries.Noted.{cycle_has_ended, cycle_began_since}
use Rattle.core_rule.proofs.entries.PhaseEntries.{reply_is_no_leave}
use Rattle.core_rule.proofs.entries.SeatLists.{own_list_is_all_told}
use Rattle.core_rule.proofs.graph.LocalReplies.{IsLocalReply, HoldAll}
use Rattle.heap_model.proofs.graph_changes.PutRegister.{only_registers_of_itself}
use Rattle.core_rule.proofs.lists.Options.{holds_of_some}
use Rattle.core_rule.proofs.roots.CallRoots.{IsReachedNow}
use Rattle.core_rule.proofs.marking.Marks.{roots_hold_off_way}
use Rattle.core_rule.proofs.steps.Assemble.{MoveKeeps}
use Rattle.core_rule.proofs.steps.LocalStep.{keeps_rule_by_local_reply}
use Rattle.core_rule.proofs.steps.StepKinds.{StepKind, only_loads, shows_note, looks_follow_phase_load, looks_go_at_first_seen, other_is_not_own, looks_go_at_end, tells_at_poll, on_words_of_plain_step}

-- the first look found no earlier phase than the last reply's
first_after : (heap : Heap) (book : Book) (number q : ℕ) (first : Option ℕ) → IfSome first (WasSeen book.history number) → FirstUpTo first q → phase (up_to_reply number book.history) ≤ q
first_after heap book number q None seen up = absurd up
first_after heap book number q (Some p) seen up = omega (arith, seen.since, up)

module _ (heap : Heap) (state : State) (book : Book) (number : ℕ) (rule : Rule heap state book) (here : number < heap.seats)
    (looks : LooksStand heap book.history number (seat_at state number).point (seat_at state number).looks) (reply : CollectReply)
    (point : (seat_at state number).point ≡ points.Collecting (Noting reply)) where
  abbrev seat : Seat
  seat = seat_at state number

  abbrev g : Graph
  g = graph_of heap book.history

  fits : IsAtRest seat × (seat.command ≡ commands.Collect) × MayNote seat.looks reply
  fits = rw point at (seat_fits rule number here).at_point

  holds : HoldAll heap book.history g number book.made book.owner book.fragments g seat.registers
  holds i = (rule.seats_stand number here).names.registers i (λ awaited. subst (λ x. IsAwaited x (target_of seat.command) i) point awaited)

  seen : SeenStands g number seat.seen
  seen = rw point at (rule.seats_stand number here).told.counts.seen

  -- the reply is right by what was found
  local : (its : CollectReply) → MayNote seat.looks its → IsLocalReply heap book.history g number book.made book.owner book.fragments commands.Collect (noted_reply its) seat.registers seat.seen
  local (Cycle j) may =
      let was = looks.found (λ named. cc (point, named)) in
      let over : 7 * (j + 1) ≤ phase book.history = omega (arith, may.1, looks.seen) in
      record {
        plain = record {
          none = refl;
          space = tt;
          spine = tt;
          phases = (
            cycle_has_ended heap book.history rule.heap_stands.legal j over,
            cycle_began_since heap book.history rule.heap_stands.legal j number (first_after heap book number (7 * j) seat.looks.first was.first may.0) over,
          );
          most = refl;
        };
        says = tt;
        only = only_registers_of_itself g number;
        registers = holds;
        seen_right = seen;
      }
  local (Waits other answered p) may =
      let was = looks.found (λ named. cc (point, named)) in
      let found : WasFound heap book.history number (behind_of other answered p)
      = holds_of_some (WasFound heap book.history number) seat.looks.behind (behind_of other answered p) may was.behind in
      record {
        plain = record { none = refl; space = tt; spine = tt; phases = (found.below, found.other, omega (arith, found.next), (found.next, found.behind)); most = refl };
        says = tt;
        only = only_registers_of_itself g number;
        registers = holds;
        seen_right = seen;
      }

  -- so noting it keeps the rule
  pub note_keeps : MoveKeeps heap state book number (note_move number seat reply)
  note_keeps machine =
      let now : Seat = seat_after (note_move number seat reply) (at heap state.words Phase) in
      let stands = rule.seats_stand number here in
      let silent : IsSilent seat = rw point at (seat_fits rule number here).answer_at_point in
      let present : (graph_seat g number).left ≡ false = stands.told.counts.leaves ∙ in_flight_has_not_left rule number here (λ idle. absurd (cc (point, idle))) in
      keeps_rule_by_local_reply heap state book number Phase now (noted_reply reply) rule here machine (rw point tt) fits.0 (own_list_is_all_told stands.told.list (rw point at stands.told.list.awaits)) present
      (subst IsCommand (sym fits.1) tt)
      (subst (λ c. IsLocalReply heap book.history g number book.made book.owner book.fragments c (noted_reply reply) seat.registers seat.seen) (sym fits.1) (local reply fits.2))
      (reply_is_no_leave number number seat.command (noted_reply reply) (λ leaves. absurd (cc (leaves, fits.1))))
      record { idle = refl; reserve = refl; mine = refl; answered = refl; asked = sym silent.none_asked; made = refl; sets = refl; left = refl }
      (λ marks. roots_hold_off_way (IsReachedNow heap state book) seat now refl tt)

-- all that is asked of it
pub step_kind_of_noting : (reply : CollectReply) → StepKind (points.Collecting (Noting reply))
step_kind_of_noting reply = record {
  keeps = λ heap state book number rule here looks. note_keeps heap state book number rule here looks reply;
  shows = λ heap state number. shows_note number (seat_at state number) reply;
  looks = record {
    follows = λ heap state number seat compares point_is. looks_follow_phase_load heap state _ _ refl refl;
    goes = λ heap state book rule number point_is. looks_go_at_first_seen heap state book rule number _ _ (λ other p comparing. cc (point_is, comparing))
        (looks_go_at_end heap number book.history (with_seen (at heap state.words Phase) (seat_at state number)) _ _ refl refl (other_is_not_own number));
    comes = λ heap number seat found point_is. tt;
  };
  words = on_words_of_plain_step (points.Collecting (Noting reply)) (λ heap number seat. note_move number seat reply) (λ heap number seat. refl) (λ heap number seat is. is) (λ heap number seat low. low)
      (λ heap state book rule number here. only_loads (λ word. refl));
  found = λ heap state book number stands here point_is. tells_at_poll heap state book number stands here (λ idle. cc (point_is, idle));
}
