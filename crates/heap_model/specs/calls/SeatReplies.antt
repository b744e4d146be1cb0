-- The replies that the results of a seat's calls stand for, and what refusals of space show.
use Rattle.std.specs.Prelude.{◌≡◌, ℕ, ◌+◌, ◌<◌, Bool, true, false, Result, Ok, Err, length}
use Rattle.heap_model.specs.declared.id.Id.{Id}
use Rattle.heap_model.specs.declared.id.Id.TheVariants.{Made}
use Rattle.heap_model.specs.declared.id.Value.{Value}
use Rattle.heap_model.specs.declared.reply.Reply.{Reply}
use Rattle.heap_model.specs.declared.reply.Reply.TheVariants as replies
use Rattle.heap_model.specs.declared.reply.Swapped.{Swapped}
use Rattle.heap_model.specs.declared.reply.Swapped.TheVariants as swaps
use Rattle.heap_model.specs.declared.refusal.Full.{Full}
use Rattle.heap_model.specs.declared.refusal.NoObject.{NoObject}
use Rattle.heap_model.specs.declared.refusal.PlaceRefusal.{PlaceRefusal}
use Rattle.heap_model.specs.declared.refusal.PlaceRefusal.TheVariants as places
use Rattle.heap_model.specs.declared.refusal.SpaceRefusal.{SpaceRefusal}
use Rattle.heap_model.specs.declared.refusal.SpaceRefusal.TheVariants as spaces
use Rattle.heap_model.specs.account.Space.{taken_of, spent_of}
use Rattle.heap_model.specs.Needs.{array_fragments, array_words}
use Rattle.heap_model.specs.calls.SeatState.{SeatState, own_graph_seat}

-- the reply to `new`
abbrev pub record_reply : Result Id Full → Reply
record_reply (Ok id) = replies.Made id
record_reply (Err full) = replies.Full full.need full.found

-- the reply to `array`
abbrev pub array_reply : Result Id SpaceRefusal → Reply
array_reply (Ok id) = replies.Made id
array_reply (Err (spaces.Full need found)) = replies.Full need found
array_reply (Err (spaces.SpineFull need used)) = replies.SpineFull need used

-- the reply where no object or no field was reached
abbrev pub refusal_reply : PlaceRefusal → Reply
refusal_reply places.NoObject = replies.NoObject
refusal_reply places.NoField = replies.NoField

-- the reply to `get`
abbrev pub get_reply : Result (Value × ℕ) PlaceRefusal → Reply
get_reply (Ok cell) = replies.Got cell.0 cell.1
get_reply (Err refusal) = refusal_reply refusal

-- the reply to `set`
abbrev pub set_reply : Result ℕ PlaceRefusal → Reply
set_reply (Ok stamp) = replies.Was stamp
set_reply (Err refusal) = refusal_reply refusal

-- the reply to `cas`
abbrev pub cas_reply : Result Swapped PlaceRefusal → Reply
cas_reply (Ok (swaps.Was stamp)) = replies.Was stamp
cas_reply (Ok (swaps.Now stamp)) = replies.Now stamp
cas_reply (Err refusal) = refusal_reply refusal

-- the reply to `same`
abbrev pub same_reply : Bool → Reply
same_reply true = replies.Yes
same_reply false = replies.No

-- the reply to `len`
abbrev pub len_reply : Result ℕ NoObject → Reply
len_reply (Ok n) = replies.Length n
len_reply (Err none) = replies.NoObject

-- the id of the seat's next object
abbrev pub next_id : SeatState → Id
next_id seat = Made seat.number (length (own_graph_seat seat).objects)

-- the seat's fragments and those that it claimed were too few, and what it claimed is given back
pub record LacksFragments (old new : SeatState) (wanted need found : ℕ) : Type 0 where
  pub needed : need ≡ wanted
  pub too_few : found < need
  pub all_found : found + spent_of old.number old.mine ≡ taken_of old.number new.mine
  pub given_back : spent_of old.number new.mine + taken_of old.number old.mine ≡ taken_of old.number new.mine + spent_of old.number old.mine

-- too little space for an array: too few fragments, or too few spine words
abbrev pub LacksSpace : SeatState → SeatState → ℕ → SpaceRefusal → Type 0
LacksSpace old new cells (spaces.Full need found) = LacksFragments old new (array_fragments cells) need found
LacksSpace old new cells (spaces.SpineFull need used) = (need ≡ array_words cells) × (old.heap.spine < used + need)

-- nothing that the seat took is left to it
abbrev pub KeepsNothing : SeatState → Type 0
KeepsNothing seat = spent_of seat.number seat.mine ≡ taken_of seat.number seat.mine
