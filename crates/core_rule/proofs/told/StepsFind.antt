-- What the rule tells of the word that one step of a seat finds.
use Rattle.std.specs.Prelude.{if◌then◌else◌}
use Rattle.std.proofs.Common.{◌≡◌, ◌≢◌, ℕ, ◌<◌, Bool, true, false, [], filter, subst}
use Rattle.core_rule.proofs.Terms.{graph_of, is_of, Command, Heap, State, seat_at, found_by, refusal_step, last_birth_move, birth_move, Seat, spine_need, Book, Awaits, IsAwaited}
use Rattle.core_rule.proofs.Terms.{Rule}
use Rattle.heap_model.specs.declared.command.Command.TheVariants as commands
use Rattle.core_machine.specs.declared.point.Access.{Access}
use Rattle.core_machine.specs.declared.point.Collecting.TheVariants as collecting
use Rattle.core_machine.specs.declared.point.Point.TheVariants as points
use Rattle.core_machine.specs.declared.step.AccessStep.TheVariants.{WalkLoad}
use Rattle.core_machine.specs.declared.step.Step.{Step}
use Rattle.core_machine.specs.declared.step.Step.TheVariants as steps
use Rattle.core_machine.specs.declared.step.TurningStep.TheVariants.{LookLoad}
use Rattle.core_rule.specs.told.Found.{TellsWord}
use Rattle.core_rule.specs.looks.Looks.{WhileCollecting, CollectingStands}
use Rattle.core_rule.specs.Stands.{Stands}
use Rattle.core_rule.proofs.entries.AtRest.{in_flight_has_not_left, point_awaits_none}
use Rattle.core_rule.proofs.entries.SeatLists.{own_list_is_all_told}
use Rattle.core_rule.proofs.told.NearPhases.{phase_word_is_near_answer, answer_word_is_told}
use Rattle.core_rule.proofs.told.OwnMetas.{tells_meta_of_word}

module _ (heap : Heap) (state : State) (book : Book) (number : ℕ) (stands : Stands heap state book) (here : number < heap.seats) where
  abbrev rule : Rule heap state book
  rule = stands.rule

  abbrev seat : Seat
  seat = seat_at state number

  -- what is told at a step
  abbrev pub TellsAt : Step → Type 0
  TellsAt step = TellsWord heap number seat step (found_by heap state step)

  module _ (busy : seat.point ≢ points.Idle) where
    pub tells_at_poll : TellsAt steps.PollLoad
    tells_at_poll = phase_word_is_near_answer heap state book number rule here (in_flight_has_not_left rule number here busy)

    pub tells_at_refusal : (command : Command) → TellsAt (refusal_step command (spine_need seat))
    tells_at_refusal (commands.Array d cells) = tt
    tells_at_refusal command = tells_at_poll

    pub tells_at_birth : (last : Bool) → TellsAt (if last then last_birth_move number seat else birth_move seat).step
    tells_at_birth true = tt
    tells_at_birth false = tt

    pub tells_at_comparing : (other p : ℕ) → seat.point ≡ points.Collecting (collecting.Comparing other p) → TellsAt (steps.Turning (LookLoad other))
    tells_at_comparing other p is =
        let looks = stands.looks number here in
        let asks : CollectingStands heap book.history number (collecting.Comparing other p) = subst (WhileCollecting (CollectingStands heap book.history number)) is looks.asks in
        answer_word_is_told heap state book number rule here (in_flight_has_not_left rule number here busy) other asks.asked.below looks.seen

    pub tells_at_meta : (point : Access) → seat.point ≡ points.Access point → (Awaits (graph_of heap book.history) book.made book.owner book.fragments number seat (points.Access point) (rule.seats_stand number here).told.list.awaited → (rule.seats_stand number here).told.list.awaited ≡ [])
        → ((d r : ℕ) → ¬ IsAwaited (points.Access point) d r) → TellsAt (steps.Access (WalkLoad seat.reached))
    tells_at_meta point is none free =
        let list = (rule.seats_stand number here).told.list in
        let told : seat.mine ≡ filter (is_of number) book.history
        = own_list_is_all_told list (none (subst (λ p. Awaits (graph_of heap book.history) book.made book.owner book.fragments number seat p list.awaited) is list.awaits)) in
        tells_meta_of_word heap state book number rule here told (λ d r. point_awaits_none seat.point (points.Access point) d r is (free d r)) seat.reached
