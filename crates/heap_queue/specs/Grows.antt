-- When a seat may make the queue, put or take, and what one such call adds to its list.
use Rattle.std.specs.Prelude.{◌≡◌, ℕ, ◌+◌, ◌<◌, ◌≤◌, false, List, ◌∷◌, ◌++◌, length}
use Rattle.heap_model.specs.Limits.{name_limit, set_limit}
use Rattle.heap_model.specs.declared.command.Command.TheVariants.{New}
use Rattle.heap_model.specs.declared.entry.Entry.{Entry}
use Rattle.heap_model.specs.declared.entry.Entry.TheVariants.{Said, Takes}
use Rattle.heap_model.specs.declared.reply.Reply.TheVariants.{Made}
use Rattle.heap_model.specs.calls.SeatState.{SeatState, own_graph_seat}
use Rattle.heap_queue.specs.Calls.{Call, IsWhole}
use Rattle.heap_queue.specs.Places.{Place}

-- the seat hasn't left, and has so many names, sets and places for entries left
pub record HasLeft (names sets room : ℕ) (seat : SeatState) : Type 0 where
  pub present : (own_graph_seat seat).left ≡ false
  pub names_left : length (own_graph_seat seat).objects + names < name_limit
  pub sets_left : (own_graph_seat seat).sets + sets < set_limit
  pub room_left : room ≤ seat.spare

-- the queue may be made, and a value put or taken: each takes at most one name and three sets, and sixteen places are enough for it
abbrev pub MayCall : SeatState → Type 0
MayCall seat = HasLeft 1 3 16 seat

-- from this place on the seat told one call up to its end, and nothing else
pub record Completes (place : Place) (old new : SeatState) (call : Call) : Type 0 where
  pub added : List Entry
  pub told : new.mine ≡ old.mine ++ added
  pub whole : IsWhole place added call

-- the first of the entries claims fragments, or tells that a node was made
abbrev pub MakesFirst : List Entry → Type 0
MakesFirst (Takes number count ∷ log) = Unit {0}
MakesFirst (Said number command (Made id) ∷ log) = command ≡ New 15 2
MakesFirst log = ⊥

-- what the seat told begins with what it claimed for a node, or with that node's making
pub record MakesAtOnce (old new : SeatState) : Type 0 where
  pub added : List Entry
  pub told : new.mine ≡ old.mine ++ added
  pub makes : MakesFirst added

-- it is the same seat of the same heap, hasn't left since, and at most so many of its names, sets and places for entries are gone
pub record Spends (names set_count room : ℕ) (old new : SeatState) : Type 0 where
  pub heap : new.heap ≡ old.heap
  pub number : new.number ≡ old.number
  pub left : (own_graph_seat new).left ≡ (own_graph_seat old).left
  pub made : length (own_graph_seat new).objects ≤ length (own_graph_seat old).objects + names
  pub sets : (own_graph_seat new).sets ≤ (own_graph_seat old).sets + set_count
  pub spare : old.spare ≤ new.spare + room
