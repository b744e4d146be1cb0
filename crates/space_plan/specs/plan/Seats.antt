-- What is kept of the seats.
use Rattle.std.specs.Prelude.{◌≡◌, ℕ, ◌-◌, ◌*◌, ◌<◌, ◌≤◌, ◌^◌, List, slice_index_or, sum_by}
use Rattle.std.specs.List.{range_with_len}
use Rattle.heap_model.specs.declared.entry.Entry.{Entry}
use Rattle.heap_model.specs.declared.heap.Heap.{Heap}
use Rattle.heap_model.specs.account.Space.{taken_of, spent_of, fragments_unborn}
use Rattle.heap_model.specs.account.Windows.{up_to_reply}
use Rattle.space_plan.specs.declared.planning.seat_space.SeatSpace.{SeatSpace}
use Rattle.space_plan.specs.declared.planning.seat_spaces.SeatSpaces.{SeatSpaces}
use Rattle.space_plan.specs.declared.planning.seat_spaces.SpaceSums.{SpaceSums}
use Rattle.space_plan.specs.plan.Cycles.{taken_since_replies}

-- what stands for a seat that isn't there
abbrev pub no_space : SeatSpace
no_space = record { taken = 0; spent = 0; taken_then = 0; spent_then = 0 }

-- what is kept of the seat of this number
abbrev pub space_at : List SeatSpace → ℕ → SeatSpace
space_at seats number = slice_index_or seats number no_space

-- what the seat had of unborn fragments right after its last reply, by what is kept of it
abbrev pub reserve_of : SeatSpace → ℕ
reserve_of seat = seat.taken_then - seat.spent_then

-- what the seat took since its last reply, by what is kept of it
abbrev pub since_of : SeatSpace → ℕ
since_of seat = seat.taken - seat.taken_then

-- what is kept of the seat is what the history says of it
pub record SeatTells (number : ℕ) (seat : SeatSpace) (history : List Entry) : Type 0 where
  pub taken : seat.taken ≡ taken_of number history
  pub spent : seat.spent ≡ spent_of number history
  pub taken_then : seat.taken_then ≡ taken_of number (up_to_reply number history)
  pub spent_then : seat.spent_then ≡ spent_of number (up_to_reply number history)

-- the counts are small enough for so many entries, whose counts have 32 bits each
pub record SeatFits (entries : ℕ) (seat : SeatSpace) : Type 0 where
  pub taken : seat.taken ≤ 2 ^ 32 * entries
  pub spent : seat.spent ≤ 2 ^ 33 * entries
  pub taken_then : seat.taken_then ≤ 2 ^ 32 * entries
  pub spent_then : seat.spent_then ≤ 2 ^ 33 * entries

-- what the seats had that was unborn, each right after its last reply
abbrev pub unborn_at_replies : Heap → List Entry → ℕ
unborn_at_replies heap history = sum_by (λ number. fragments_unborn number (up_to_reply number history)) (range_with_len 0 heap.seats)

-- what is kept of each seat of the heap is what the history says of it
abbrev pub SeatsTell : Heap → SeatSpaces → List Entry → Type 0
SeatsTell heap seats history = (number : ℕ) → number < heap.seats → SeatTells number (space_at seats.spaces number) history

-- the counts of each seat are small enough for so many entries
abbrev pub SeatsFit : ℕ → SeatSpaces → Type 0
SeatsFit entries seats = (number : ℕ) → SeatFits entries (space_at seats.spaces number)

-- what the seats have together is what the history says of them
pub record SumsTell (heap : Heap) (sums : SpaceSums) (history : List Entry) : Type 0 where
  pub reserves : sums.reserves ≡ unborn_at_replies heap history
  pub since : sums.since ≡ taken_since_replies heap history

-- it is small enough for so many entries
pub record SumsFit (entries : ℕ) (sums : SpaceSums) : Type 0 where
  pub reserves : sums.reserves ≤ 2 ^ 36 * entries
  pub since : sums.since ≤ 2 ^ 36 * entries
