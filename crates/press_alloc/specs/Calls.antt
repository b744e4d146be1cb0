-- What a call asks of the history before it, and what it adds to that.
use Rattle.std.specs.Prelude.{◌≡◌, ℕ, ◌<◌, false, List, [], ◌∷◌, ◌++◌}
use Rattle.std.specs.List.{AllByRecursion}
use Rattle.heap_model.specs.declared.command.Command.{Command}
use Rattle.heap_model.specs.declared.command.Command.TheVariants.{Collect}
use Rattle.heap_model.specs.declared.entry.Entry.{Entry}
use Rattle.heap_model.specs.declared.entry.Entry.TheVariants.{Said, Takes, GivesBack}
use Rattle.heap_model.specs.declared.heap.Heap.{Heap}
use Rattle.heap_model.specs.declared.reply.Reply.{Reply}
use Rattle.heap_model.specs.Command.{IsCommand}
use Rattle.heap_model.specs.calls.SeatCalls.{HasNumber}
use Rattle.heap_model.specs.calls.SeatState.{SeatState, own_graph_seat}

-- what contracts see of a seat, by the entries of all, but for its room
abbrev pub seat_state_of : Heap → List Entry → ℕ → SeatState
seat_state_of heap history number = record { heap = heap; number = number; mine = history; spare = 0 }

-- the seat may be given the command: it is there, it hasn't left, and the command has its numbers
pub record MayCall (heap : Heap) (history : List Entry) (number : ℕ) (command : Command) : Type 0 where
  pub within : number < heap.seats
  pub present : (own_graph_seat (seat_state_of heap history number)).left ≡ false
  pub in_range : IsCommand command
  pub numbered : HasNumber (seat_state_of heap history number) command

-- the entry answers no command of a seat
abbrev pub IsNoReply : Entry → Type 0
IsNoReply (Said number command reply) = ⊥
IsNoReply _ = Unit {0}

-- the entry takes no fragments and gives none back
abbrev pub MovesNothing : Entry → Type 0
MovesNothing (Takes number count) = ⊥
MovesNothing (GivesBack number count) = ⊥
MovesNothing _ = Unit {0}

-- the call added entries of which the last is its reply, and no other is one; while it collects nothing is taken or given back
pub record AddsCall (old new : List Entry) (number : ℕ) (command : Command) (reply : Reply) : Type 0 where
  pub before : List Entry
  pub told : new ≡ old ++ (before ++ Said number command reply ∷ [])
  pub one_reply : AllByRecursion IsNoReply before
  pub moves_nothing : command ≡ Collect → AllByRecursion MovesNothing before
