-- A call of a seat, from what its holder was to what it is after the steps.
use Rattle.std.proofs.Common.{◌≡◌, ◌+◌, ◌≤◌, List, Some, None, sym, ap, subst, ◌∙◌}
use Rattle.heap_model.specs.calls.SeatCalls.{IsReady}
use Rattle.heap_model.specs.declared.command.Command.{Command}
use Rattle.heap_model.specs.declared.reply.Reply.{Reply}
use Rattle.core_machine.specs.calls.Owes.{owes}
use Rattle.core_machine.specs.declared.point.Point.TheVariants.{Idle}
use Rattle.core_machine.specs.machine.Calls.{last_reply_of}
use Rattle.core_machine.specs.machine.Machine.{MayBegin}
use Rattle.core_machine.specs.seat.Commands.{IsServed}
use Rattle.core_rule.specs.told.Told.{IsAsTold}
use Rattle.heap_table.specs.Made.{Made, MakesSteps, IsSound}
use Rattle.heap_table.specs.SeatHeld.{SeatHeld}
use Rattle.heap_table.specs.StepLaws.{EachStageIsTold}
use Rattle.mutator_seat.specs.Calls.{begun, MakesCall}
use Rattle.mutator_seat.specs.Resting.{seat_state, Rests}
use Rattle.mutator_seat.proofs.Answered.{begun_is_sound, begun_has_room, replied_call_is_made, call_has_some_reply}
use Rattle.mutator_seat.proofs.Entries.{ready_may_begin}
use Rattle.mutator_seat.proofs.KeptOn.{seat_rests_after_call}

module _ (inside value : SeatHeld) (command : Command) (view : inside ≡ value) (rests : Rests inside) (ready : IsReady (seat_state value) command) (served : IsServed command) where
  rested : Rests value
  rested = subst Rests view rests

  may : MayBegin value.seat command
  may = ready_may_begin value command rested served ready

  pub inside_may_begin : MayBegin inside.seat command
  inside_may_begin = subst (λ (h : SeatHeld). MayBegin h.seat command) (sym view) may

  module _ (first : SeatHeld) (is : first ≡ begun inside command) where
    begun_is : first ≡ begun value command
    begun_is = is ∙ ap (λ (h : SeatHeld). begun h command) view

    pub first_is_sound : IsSound first
    first_is_sound = begun_is_sound value command rested may first begun_is

    pub first_has_room : owes first.seat + 2 ≤ first.spare
    first_has_room = begun_has_room value command rested may first begun_is ready.room

    module _ (laws : EachStageIsTold) (new : SeatHeld) (steps : (made : List Made) × MakesSteps first new made) (over : new.seat.point ≡ Idle) where
      makes : MakesSteps (begun value command) new steps.0
      makes = subst (λ (h : SeatHeld). MakesSteps h new steps.0) begun_is steps.1

      pub call_replies_at_last : last_reply_of new.seat.mine ≡ None → ⊥
      call_replies_at_last = call_has_some_reply value command rested may laws new steps.0 makes over

      module _ (reply : Reply) (last : last_reply_of new.seat.mine ≡ Some reply) where
        pub whole_call_is_made : MakesCall value new command reply
        whole_call_is_made = replied_call_is_made value command rested may laws new steps.0 makes over reply last

        pub seat_rests_then : IsSound new → (new.seat.point ≡ Idle → IsAsTold new.heap new.number new.seat) → Rests new
        seat_rests_then sound told = seat_rests_after_call value new command reply may whole_call_is_made sound (told over)
