-- Which replies a call can have.
use Rattle.std.proofs.Common.{◌≡◌, ℕ, Bool, true, false, List, refl, sym, subst, inl, inr}
use Rattle.heap_model.specs.declared.command.Command.{Command}
use Rattle.heap_model.specs.declared.command.Command.TheVariants as commands
use Rattle.heap_model.specs.declared.entry.Entry.{Entry}
use Rattle.heap_model.specs.declared.heap.Heap.{Heap}
use Rattle.heap_model.specs.declared.reply.Reply.{Reply}
use Rattle.heap_model.specs.declared.reply.Reply.TheVariants as replies
use Rattle.core_machine.specs.calls.Kept.{Kept, kept_of}
use Rattle.core_machine.specs.calls.Replies.{AnswersLocally, IsDoneBy, StandsOn}
use Rattle.core_machine.specs.declared.step.Step.{Step}
use Rattle.core_machine.specs.seat.Commands.{MakesObject, IsArrayCall}
use Rattle.core_machine.specs.seat.FitsAccess.{IsGet, IsSet, IsCas, NamesField}
use Rattle.core_machine.specs.seat.FitsHandshake.{IsLocal}
use Rattle.core_machine.specs.seat.Local.{answer_of, local_reply_of}
use Rattle.core_machine.specs.seat.Registers.{register_in, value_of, is_same_value}
use Rattle.heap_table.specs.SeatHeld.{SeatHeld}
use Rattle.heap_table.specs.Made.{ToldIn}
use Rattle.mutator_seat.specs.Calls.{MakesCall}
use Rattle.mutator_seat.specs.Replies.{AnswersRecord, AnswersArray, AnswersGet, AnswersSet, AnswersCas, AnswersSame, IsDone, IsReplyTo}

-- one that looks at no word
answers_same : (b : Bool) → AnswersSame (answer_of b)
answers_same true = tt
answers_same false = tt

local_reply : (command : Command) (before kept : Kept) (reply : Reply) → AnswersLocally command before kept reply → IsReplyTo command reply
local_reply command before kept reply is = subst (IsReplyTo command) (sym is.reply_is) (by command is.local)
  where
    by : (command : Command) → IsLocal before.registers command → IsReplyTo command (local_reply_of before.registers command)
    by (commands.New d fields) local = absurd local
    by (commands.Array d cells) local = absurd local
    by (commands.Get d r i) local = tt
    by (commands.Set r i v) local = tt
    by (commands.Cas r i a v) local = tt
    by (commands.Num d n) local = tt
    by (commands.Nil d) local = tt
    by (commands.Copy d r) local = tt
    by (commands.Same a b) local = answers_same (is_same_value (value_of (register_in before.registers a)) (value_of (register_in before.registers b)))
    by (commands.Len r) local = tt
    by commands.Poll local = absurd local
    by commands.Collect local = absurd local
    by commands.Leave local = absurd local

done_reply : (command : Command) (before kept : Kept) → IsDoneBy before kept command → IsReplyTo command replies.Done
done_reply commands.Leave before kept is = tt
done_reply _ before kept is = local_reply _ before kept replies.Done is

made_reply : (command : Command) (reply : Reply) → MakesObject command → AnswersRecord reply → AnswersArray reply → IsReplyTo command reply
made_reply (commands.New d fields) reply makes record_ array = record_
made_reply (commands.Array d cells) reply makes record_ array = array
made_reply _ reply makes record_ array = absurd makes

array_reply : (command : Command) (reply : Reply) → IsArrayCall command → AnswersArray reply → IsReplyTo command reply
array_reply (commands.Array d cells) reply an_array array = array
array_reply _ reply an_array array = absurd an_array

get_reply : (command : Command) (reply : Reply) → IsGet command → AnswersGet reply → IsReplyTo command reply
get_reply (commands.Get d r i) reply a_get answers = answers
get_reply _ reply a_get answers = absurd a_get

set_reply : (command : Command) (reply : Reply) → IsSet command → AnswersSet reply → IsReplyTo command reply
set_reply (commands.Set r i v) reply a_set answers = answers
set_reply _ reply a_set answers = absurd a_set

cas_reply : (command : Command) (reply : Reply) → IsCas command → AnswersCas reply → IsReplyTo command reply
cas_reply (commands.Cas r i a v) reply a_cas answers = answers
cas_reply _ reply a_cas answers = absurd a_cas

field_reply : (command : Command) → NamesField command → IsReplyTo command replies.NoField
field_reply (commands.Get d r i) names = tt
field_reply (commands.Set r i v) names = tt
field_reply (commands.Cas r i a v) names = tt
field_reply _ names = absurd names

pub reply_is_to_command : (tells : Step → ℕ → Type 0) (heap : Heap) (number : ℕ) (command : Command) (before kept : Kept) (first : List Entry) (reply : Reply)
    → StandsOn tells heap number command before kept first reply → IsReplyTo command reply
reply_is_to_command tells heap number command before kept first replies.Done is = done_reply command before kept is
reply_is_to_command tells heap number command before kept first replies.Yes is = local_reply command before kept replies.Yes is
reply_is_to_command tells heap number command before kept first replies.No is = local_reply command before kept replies.No is
reply_is_to_command tells heap number command before kept first (replies.Made id) is = made_reply command (replies.Made id) is.an_object tt tt
reply_is_to_command tells heap number command before kept first (replies.Got value stamp) is = get_reply command (replies.Got value stamp) is.a_get tt
reply_is_to_command tells heap number command before kept first (replies.Was stamp) (inl is) = set_reply command (replies.Was stamp) is.a_set tt
reply_is_to_command tells heap number command before kept first (replies.Was stamp) (inr is) = cas_reply command (replies.Was stamp) is.compared.a_cas tt
reply_is_to_command tells heap number command before kept first (replies.Now stamp) is = cas_reply command (replies.Now stamp) is.compared.a_cas tt
reply_is_to_command tells heap number command before kept first (replies.Length n) is = subst (λ (c : Command). IsReplyTo c (replies.Length n)) (sym is.a_len) tt
reply_is_to_command tells heap number command before kept first (replies.Phase p) is = subst (λ (c : Command). IsReplyTo c (replies.Phase p)) (sym is.a_poll) tt
reply_is_to_command tells heap number command before kept first (replies.Cycle j) is = absurd is
reply_is_to_command tells heap number command before kept first (replies.Waits other answered phase) is = absurd is
reply_is_to_command tells heap number command before kept first replies.NoObject is = local_reply command before kept replies.NoObject is
reply_is_to_command tells heap number command before kept first replies.NoField is = field_reply command is.names
reply_is_to_command tells heap number command before kept first (replies.Full need found) is = made_reply command (replies.Full need found) is.an_object tt tt
reply_is_to_command tells heap number command before kept first (replies.SpineFull need used) is = array_reply command (replies.SpineFull need used) is.an_array tt

pub each_reply_is_to_command : (old new : SeatHeld) (command : Command) (reply : Reply) → MakesCall old new command reply → IsReplyTo command reply
each_reply_is_to_command old new command reply call = reply_is_to_command (ToldIn old call.made) old.heap old.number command (kept_of old.seat) (kept_of new.seat) call.first reply call.stands

-- a command that is only done
abbrev IsOnlyDone : Command → Type 0
IsOnlyDone (commands.Num d n) = Unit {0}
IsOnlyDone (commands.Nil d) = Unit {0}
IsOnlyDone (commands.Copy d r) = Unit {0}
IsOnlyDone commands.Leave = Unit {0}
IsOnlyDone _ = ⊥

done_of : (command : Command) (reply : Reply) → IsOnlyDone command → IsReplyTo command reply → IsDone reply
done_of (commands.Num d n) reply only is = is
done_of (commands.Nil d) reply only is = is
done_of (commands.Copy d r) reply only is = is
done_of commands.Leave reply only is = is
done_of _ reply only is = absurd only

reply_done : (reply : Reply) → IsDone reply → reply ≡ replies.Done
reply_done replies.Done is = refl
reply_done _ is = absurd is

pub done_call_is_made : (old new : SeatHeld) (command : Command) (reply : Reply) → IsOnlyDone command → MakesCall old new command reply → MakesCall old new command replies.Done
done_call_is_made old new command reply only call = subst (MakesCall old new command) (reply_done reply (done_of command reply only (each_reply_is_to_command old new command reply call))) call
