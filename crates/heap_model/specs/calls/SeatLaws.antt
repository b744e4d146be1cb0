-- What is true of every seat, and what follows of how its calls add entries.
use Rattle.std.specs.Prelude.{◌≡◌, ◌≢◌, ℕ, ◌+◌, ◌*◌, ◌<◌, ◌≤◌, false, List, length, All}
use Rattle.heap_model.specs.declared.command.Command.{Command}
use Rattle.heap_model.specs.declared.command.Command.TheVariants.{New, Array, Set, Cas, Leave}
use Rattle.heap_model.specs.declared.entry.Entry.{Entry}
use Rattle.heap_model.specs.declared.entry.Entry.TheVariants.{Said, Takes, GivesBack, Answers}
use Rattle.heap_model.specs.declared.id.Id.TheVariants.{Board}
use Rattle.heap_model.specs.declared.id.Value.TheVariants.{Object}
use Rattle.heap_model.specs.declared.reply.Reply.{Reply}
use Rattle.heap_model.specs.Command.{IsCommand}
use Rattle.heap_model.specs.graph.Growth.{after_reply}
use Rattle.heap_model.specs.graph.Graph.{GraphSeat}
use Rattle.heap_model.specs.graph.Objects.{graph_seat}
use Rattle.heap_model.specs.Heap.{IsHeap}
use Rattle.heap_model.specs.Needs.{need_of}
use Rattle.heap_model.specs.calls.SeatCalls.{ComesBefore, Adds}
use Rattle.heap_model.specs.calls.SeatState.{SeatState, own_graph, own_graph_seat, held_value}

-- the entry is the seat's, and its command's numbers are in their ranges
abbrev pub IsOwn : ℕ → Entry → Type 0
IsOwn number (Said other command reply) = (other ≡ number) × IsCommand command
IsOwn number (Takes other count) = other ≡ number
IsOwn number (GivesBack other count) = other ≡ number
IsOwn number (Answers other phase) = other ≡ number
IsOwn number _ = ⊥

-- the heap is within its limits, the seat is one of its seats, and each of its entries is its own
pub record IsSeat (seat : SeatState) : Type 0 where
  pub heap : IsHeap seat.heap
  pub number : seat.number < seat.heap.seats
  pub own : All (IsOwn seat.number) seat.mine

-- a call adds at most two entries for each fragment that its command needs, and two more
abbrev pub EachCallIsShort : Type 0
EachCallIsShort =
    (number unborn last : ℕ) (command : Command) (reply : Reply) (before : List Entry) → ComesBefore number unborn last command reply before
    → length before + 1 ≤ 2 * need_of command + 2

-- a call spends room for at most two entries for each fragment that its command needs, and two more
abbrev pub EachCallLeavesRoom : Type 0
EachCallLeavesRoom = (old new : SeatState) (command : Command) (reply : Reply) → Adds old new command reply → old.spare ≤ new.spare + 2 * need_of command + 2

-- register 0 of a seat that hasn't left is the board
abbrev pub BoardStays : Type 0
BoardStays = (seat : SeatState) → IsSeat seat → (own_graph_seat seat).left ≡ false → held_value seat 0 ≡ Object Board

-- a call changes the graph of the seat's own entries by its reply alone
abbrev pub EachCallGrows : Type 0
EachCallGrows = (old new : SeatState) (command : Command) (reply : Reply) → Adds old new command reply → own_graph new ≡ after_reply (own_graph old) old.number command reply

-- how many objects a call of the command makes at most
abbrev pub most_made : Command → ℕ
most_made (New d fields) = 1
most_made (Array d cells) = 1
most_made _ = 0

-- how many sets of the seat a call of the command uses up at most
abbrev pub most_stamped : Command → ℕ
most_stamped (Set r i v) = 1
most_stamped (Cas r i a v) = 1
most_stamped _ = 0

-- only a leave makes the seat leave, only a call that makes an object counts one, and only a set or a cas counts a set
pub record CountsUp (old new : SeatState) (command : Command) : Type 0 where
  pub present_stays : command ≢ Leave → (own_graph_seat new).left ≡ (own_graph_seat old).left
  pub made_more : length (own_graph_seat new).objects ≤ length (own_graph_seat old).objects + most_made command
  pub sets_more : (own_graph_seat new).sets ≤ (own_graph_seat old).sets + most_stamped command

-- each call counts up by no more than that
abbrev pub EachCallCounts : Type 0
EachCallCounts = (old new : SeatState) (command : Command) (reply : Reply) → Adds old new command reply → CountsUp old new command

-- the seat has left where it had, and has made no object and done no set since
pub record CountsAsBefore (old new : GraphSeat) : Type 0 where
  pub leaves_same : new.left ≡ old.left
  pub made_same : length new.objects ≡ length old.objects
  pub sets_same : new.sets ≡ old.sets

-- a call leaves the counts of all other seats as they were
abbrev pub EachCallSparesOthers : Type 0
EachCallSparesOthers = (old new : SeatState) (command : Command) (reply : Reply) (other : ℕ) → Adds old new command reply → other ≢ old.number
    → CountsAsBefore (graph_seat (own_graph old) other) (graph_seat (own_graph new) other)
