-- What the rule tells of the word that a seat's due step finds.
use Rattle.std.specs.Prelude.{IfSome}
use Rattle.std.proofs.Common.{◌≡◌, ℕ, ◌<◌, Option, Some, refl, subst}
use Rattle.core_rule.proofs.Terms.{Heap, State, seat_at, found_by, due_step, Seat, Book}
use Rattle.core_machine.specs.declared.step.Step.{Step}
use Rattle.core_rule.specs.told.Found.{TellsWord, TellsFound, EachFoundIsTold}
use Rattle.core_rule.specs.Stands.{Stands}
use Rattle.core_rule.proofs.told.OwnMetas.{if_some_of_present}
use Rattle.core_rule.proofs.told.ReachedFields.{due_word_reaches_in_book}
use Rattle.core_rule.proofs.steps.Seats.{step_kind_of_each_point}

module _ (heap : Heap) (state : State) (book : Book) (number : ℕ) (stands : Stands heap state book) (here : number < heap.seats) where
  abbrev seat : Seat
  seat = seat_at state number

  found_told : (step : Step) → due_step heap number seat ≡ Some step → TellsFound heap number seat (found_by heap state step)
  found_told step due = record {
    word = rw due at_step;
    reached = due_word_reaches_in_book heap state book number stands.rule here step due stands;
  }
    where
      at_step : TellsWord heap number seat step (found_by heap state step)
      at_step = subst (λ (o : Option Step). IfSome o (λ s. TellsWord heap number seat s (found_by heap state s))) due ((step_kind_of_each_point seat.point).found heap state book number stands here refl)

pub each_found_is_told : EachFoundIsTold
unfolding EachFoundIsTold
each_found_is_told heap state book number stands here =
    if_some_of_present (λ step. TellsFound heap number (seat_at state number) (found_by heap state step)) (due_step heap number (seat_at state number)) (found_told heap state book number stands here)
