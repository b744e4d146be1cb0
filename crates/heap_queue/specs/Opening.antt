-- What the first seat has told once it made the queue, or was refused its first node.
use Rattle.std.specs.Prelude.{◌≡◌, ℕ, ◌≤◌, List, [], ◌∷◌, ◌++◌, slice_get, slice_set, All, Option, Some, None}
use Rattle.atomic_table.specs.Seated.{TableId}
use Rattle.heap_model.specs.account.Space.{spent_of, taken_of}
use Rattle.heap_model.specs.declared.command.Command.TheVariants.{New}
use Rattle.heap_model.specs.declared.entry.Entry.{Entry}
use Rattle.heap_model.specs.declared.entry.Entry.TheVariants.{Said}
use Rattle.heap_model.specs.declared.heap.Heap.{Heap}
use Rattle.heap_model.specs.declared.refusal.Full.{Full}
use Rattle.heap_model.specs.declared.reply.Reply.TheVariants as replies
use Rattle.heap_table.specs.SeatHeld.{SeatHeld}
use Rattle.heap_runs.specs.CollectCall.{IsPresent}
use Rattle.heap_runs.specs.SeatWork.{IsOfTable, objects_of, sets_of}
use Rattle.heap_queue.specs.Serving.{HasBegun}

-- the log's one reply refuses a node for want of the one fragment that it needs, and the first seat, which found none, has taken and spent none
pub record IsRefused (log : List Entry) (full : Full) : Type 0 where
  pub need_is : full.need ≡ 1
  pub found_is : full.found ≡ 0
  pub before : List Entry
  pub number : ℕ
  pub log_is : log ≡ before ++ Said number (New 15 2) (replies.Full 1 0) ∷ []
  pub took : taken_of 0 log ≡ 0
  pub spent : spent_of 0 log ≡ 0

-- what the first seat's log tells by whether it was refused a node
abbrev pub OpensBy : List Entry → Option Full → Type 0
OpensBy log None = HasBegun 0 log
OpensBy log (Some full) = IsRefused log full

-- the first seat hasn't left, has made no more than one object and done no more than three sets, and has made the queue or was refused its first node
pub record HasOpened (seat : SeatHeld) (refused : Option Full) : Type 0 where
  pub number_is : seat.number ≡ 0
  pub present : IsPresent seat
  pub objects : objects_of seat ≤ 1
  pub sets : sets_of seat ≤ 3
  pub told : OpensBy seat.seat.mine refused

-- the first seat stands in the place of the one that it was, and has made the queue or was refused its first node; the others are as they were
pub record OpensFirst (table : TableId) (heap : Heap) (olds news : List SeatHeld) (refused : Option Full) : Type 0 where
  pub first : SeatHeld
  pub of_table : IsOfTable table heap first
  pub opened : HasOpened first refused
  pub news_are : news ≡ slice_set olds 0 first

-- the first of the seats was refused a node, and none of them has taken a fragment
pub record AreRefused (seats : List SeatHeld) (full : Full) : Type 0 where
  pub took : All (λ seat. taken_of seat.number seat.seat.mine ≡ 0) seats
  pub first : SeatHeld
  pub here : slice_get seats 0 ≡ Some first
  pub refused : IsRefused first.seat.mine full
