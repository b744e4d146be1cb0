-- Each due step is on a word that the table has: on a spine word only where that is somebody's, and those stand within the table.
use Rattle.std.specs.Prelude.{IfSome, option_map}
use Rattle.std.proofs.Common.{ℕ, ◌<◌, Option, None, Some, refl, arith}
use Rattle.core_rule.proofs.Terms.{Heap, Point, State, seat_at, Move, move_at, Seat, InTable, HasWord, address_of, Book, Rule}
use Rattle.core_machine.proofs.collector_lemmas.{turn_stands}
use Rattle.core_machine.proofs.moves.{due_move_stands}
use Rattle.core_machine.proofs.moves.Standing.{MoveStands}
use Rattle.core_rule.specs.runs.TableLaws.{EachStepHasItsWord, EachTurnHasItsWord}
use Rattle.core_rule.proofs.entries.AtRest.{seat_fits}
use Rattle.core_rule.proofs.steps.collector.{turn_kind_of_each_stage}
use Rattle.core_rule.proofs.steps.Seats.{step_kind_of_each_point}

module _ (heap : Heap) (state : State) (book : Book) (rule : Rule heap state book) where
  module _ (number : ℕ) (here : number < heap.seats) where
    abbrev seat : Seat
    seat = seat_at state number

    -- the step that is due at a point
    abbrev IsThere : Point → Type 0
    IsThere point = IfSome (option_map (λ move. move.step) (move_at heap number seat point)) (λ step. HasWord heap (address_of step))

    in_table : (move : Option Move) → IfSome move (MoveStands heap number seat seat.point) → IfSome move (λ m. InTable heap (address_of m.step))
    in_table None stands = tt
    in_table (Some move) stands = stands.step.in_table

    pub step_there : IsThere seat.point
    step_there = (step_kind_of_each_point seat.point).words.there heap state book rule number here refl (in_table (move_at heap number seat seat.point)
        (due_move_stands heap number seat rule.machine.limits (omega (arith, here, rule.machine.limits.seats_fit)) (seat_fits rule number here)))

pub each_step_has_its_word : EachStepHasItsWord
unfolding EachStepHasItsWord
each_step_has_its_word heap state book number rule here = step_there heap state book rule number here

pub each_turn_has_its_word : EachTurnHasItsWord
unfolding EachTurnHasItsWord
each_turn_has_its_word heap state book rule = (turn_kind_of_each_stage state.collector.stage).spines.there heap state book rule refl
    (turn_stands heap state.collector rule.machine.limits rule.machine.collector_fit).step.in_table
