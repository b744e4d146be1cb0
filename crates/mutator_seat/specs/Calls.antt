-- A whole call of a seat, between whose steps others may step.
use Rattle.std.specs.Prelude.{◌≡◌, ℕ, ◌+◌, ◌≤◌, ◌++◌, List, [], ◌∷◌, length}
use Rattle.std.specs.List.{AllByRecursion}
use Rattle.heap_model.specs.calls.SeatCalls.{ComesBefore}
use Rattle.heap_model.specs.declared.command.Command.{Command}
use Rattle.heap_model.specs.declared.entry.Entry.{Entry}
use Rattle.heap_model.specs.declared.entry.Entry.TheVariants.{Said}
use Rattle.heap_model.specs.declared.reply.Reply.{Reply}
use Rattle.heap_model.specs.declared.reply.Reply.TheVariants as replies
use Rattle.core_machine.specs.calls.Kept.{kept_of}
use Rattle.core_machine.specs.calls.Replies.{StandsOn}
use Rattle.core_machine.specs.declared.point.Point.TheVariants.{Idle}
use Rattle.core_machine.specs.declared.step.SpineStep.TheVariants.{BudgetAdd}
use Rattle.core_machine.specs.declared.step.Step.TheVariants.{PollLoad, Spine}
use Rattle.core_machine.specs.machine.Calls.{IsBeside, KeepsOwn}
use Rattle.core_machine.specs.machine.Machine.{after_begin}
use Rattle.heap_table.specs.Made.{Made, FoundIn, ToldIn, MakesSteps}
use Rattle.heap_table.specs.SeatHeld.{SeatHeld}
use Rattle.frag_claim.specs.Gathered.{IsExhausted}
use Rattle.mutator_seat.specs.Resting.{Rests}

-- the seat with the command in flight
abbrev pub begun : SeatHeld → Command → SeatHeld
begun held command = record held { seat = after_begin held.heap held.seat command }

-- what these steps found for a reply that shows a phase or a refusal of space: the phase word; a claim at every group, and no more than that; the spine words in use
abbrev pub IsCauseOf : List Made → SeatHeld → Reply → Type 0
IsCauseOf made old (replies.Phase p) = FoundIn made PollLoad p
IsCauseOf made old (replies.Full need found) = IsExhausted made old.heap.groups old.seat.reserve found
IsCauseOf made old (replies.SpineFull need used) = FoundIn made (Spine (BudgetAdd need)) used
IsCauseOf made old _ = Unit {0}

-- a reply that refuses leaves what the seat keeps as it was
abbrev pub KeepsWhereRefused : SeatHeld → SeatHeld → Reply → Type 0
KeepsWhereRefused old new (replies.Full need found) = KeepsOwn old.seat new.seat
KeepsWhereRefused old new (replies.SpineFull need used) = KeepsOwn old.seat new.seat
KeepsWhereRefused old new replies.NoObject = KeepsOwn old.seat new.seat
KeepsWhereRefused old new replies.NoField = KeepsOwn old.seat new.seat
KeepsWhereRefused old new _ = Unit {0}

-- the seat rested, made steps one after another from the command's begin on, and no call is in flight; its new entries are those of the command, the reply last, which stands on what the steps found, and no room was made
pub record MakesCall (old new : SeatHeld) (command : Command) (reply : Reply) : Type 0 where
  pub rested : Rests old
  pub made : List Made
  pub makes : MakesSteps (begun old command) new made
  pub over : new.seat.point ≡ Idle
  pub first : List Entry
  pub told : new.seat.mine ≡ old.seat.mine ++ (first ++ Said old.number command reply ∷ [])
  pub beside : AllByRecursion (IsBeside old.number) first
  pub comes : ComesBefore old.number (length old.seat.reserve) old.seat.answered command reply first
  pub stands : StandsOn (ToldIn old made) old.heap old.number command (kept_of old.seat) (kept_of new.seat) first reply
  pub room : old.spare + length old.seat.mine ≤ new.spare + length new.seat.mine
  pub no_more : new.spare ≤ old.spare
  pub cause : IsCauseOf made old reply
  pub refused : KeepsWhereRefused old new reply
  pub waits_stay : new.seat.looks.waits ≡ old.seat.looks.waits
