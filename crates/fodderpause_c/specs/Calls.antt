-- A whole call of a seat, or why it isn't made.
use Rattle.std.specs.Prelude.{◌≡◌, ◌+◌, ◌*◌, ◌<◌, ◌≤◌, true, false, length, Result, Ok, Err}
use Rattle.heap_model.specs.Command.{IsCommand}
use Rattle.heap_model.specs.Limits.{name_limit, set_limit}
use Rattle.heap_model.specs.Needs.{need_of}
use Rattle.heap_model.specs.calls.SeatCalls.{IsReady, HasNumber}
use Rattle.heap_model.specs.calls.SeatState.{SeatState, own_graph_seat}
use Rattle.heap_model.specs.declared.command.Command.{Command}
use Rattle.heap_model.specs.declared.command.Command.TheVariants.{Set, Cas}
use Rattle.heap_model.specs.declared.reply.Reply.{Reply}
use Rattle.core_machine.specs.seat.Commands.{IsServed, MakesObject}
use Rattle.heap_table.specs.SeatHeld.{SeatHeld}
use Rattle.mutator_seat.specs.Calls.{MakesCall}
use Rattle.mutator_seat.specs.Replies.{IsReplyTo}
use Rattle.mutator_seat.specs.Resting.{seat_state}
use Rattle.fodderpause_c.specs.declared.refusal.Refusal.{Refusal}
use Rattle.fodderpause_c.specs.declared.refusal.Refusal.TheVariants as causes

-- the command is of a whole call, and each number of it is in its range
pub record IsGiven (command : Command) : Type 0 where
  pub served : IsServed command
  pub in_range : IsCommand command

-- the seat is there still, and has the command
pub record IsPresentFor (seat : SeatState) (command : Command) : Type 0 where
  pub given : IsGiven command
  pub present : (own_graph_seat seat).left ≡ false

-- the seat may be called
pub record MayCall (seat : SeatState) (command : Command) : Type 0 where
  pub served : IsServed command
  pub ready : IsReady seat command

-- the command sets a field
abbrev pub SetsField : Command → Type 0
SetsField (Set r i v) = Unit {0}
SetsField (Cas r i a v) = Unit {0}
SetsField _ = ⊥

-- the command uses up a name or a set, and none is left
abbrev pub LacksNumber : SeatState → Command → Refusal → Type 0
LacksNumber seat command causes.NamesSpent = MakesObject command × (name_limit ≤ length (own_graph_seat seat).objects + 1)
LacksNumber seat command causes.SetsSpent = SetsField command × (set_limit ≤ (own_graph_seat seat).sets + 1)
LacksNumber seat command _ = ⊥

-- the seat may not be called for this cause, the first that stands
abbrev pub Refuses : SeatState → Command → Refusal → Type 0
Refuses seat command causes.OutOfRange = ¬ IsGiven command
Refuses seat command causes.HasLeft = IsGiven command × ((own_graph_seat seat).left ≡ true)
Refuses seat command causes.NamesSpent = IsPresentFor seat command × LacksNumber seat command causes.NamesSpent
Refuses seat command causes.SetsSpent = IsPresentFor seat command × LacksNumber seat command causes.SetsSpent
Refuses seat command causes.EntriesSpent = IsPresentFor seat command × HasNumber seat command × (seat.spare < 2 * need_of command + 4)
Refuses seat command _ = ⊥

-- the seat made the whole call, which it may, and this is its reply; or it may not, and is as it was
abbrev pub Calls : Command → SeatHeld → SeatHeld → Result Reply Refusal → Type 0
Calls command old new (Ok reply) = MayCall (seat_state old) command × MakesCall old new command reply × IsReplyTo command reply
Calls command old new (Err refusal) = Refuses (seat_state old) command refusal × (new ≡ old)
