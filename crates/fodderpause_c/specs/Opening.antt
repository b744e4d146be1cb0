-- A heap is opened, as C has it.
use Rattle.std.specs.Prelude.{◌≡◌, ◌⊎◌, ℕ, Bool, true, false, not, List, map, length, All, Option, Some, is_some, Result, Ok, Err}
use Rattle.std.specs.List.{range_with_len, list_all}
use Rattle.std.specs.declared.alloc.Global.{Global}
use Rattle.std.specs.declared.boxed.Box.{Box}
use Rattle.heap_model.specs.Heap.{IsHeap}
use Rattle.heap_model.specs.declared.heap.Heap.{Heap}
use Rattle.heap_table.specs.CollectorHeld.{CollectorHeld}
use Rattle.heap_table.specs.Known.{opening_known}
use Rattle.heap_table.specs.Opened.{IsOpened}
use Rattle.heap_table.specs.SeatHeld.{SeatHeld}
use Rattle.fodderpause_c.specs.Codes.{answer_code}
use Rattle.fodderpause_c.specs.declared.handle.Handle.{Handle}
use Rattle.fodderpause_c.specs.declared.party.Party.{Party}
use Rattle.fodderpause_c.specs.declared.party.Party.TheVariants.{OfSeat, OfCollector}
use Rattle.fodderpause_c.specs.declared.refusal.Refusal.{Refusal}
use Rattle.fodderpause_c.specs.declared.refusal.Refusal.TheVariants.{NoMemory, IsHeld, OutOfRange}

-- the parties in these boxes
abbrev pub boxed_in : List (Box Party Global) → List Party
boxed_in boxes = map (λ (b : Box Party Global). b.value) boxes

-- what is behind these handles
abbrev pub behind : List Handle → List (Option Party)
behind handles = map (λ (handle : Handle). handle.pointer.party) handles

-- there is nothing behind any of them
abbrev pub are_bare : List Handle → Bool
are_bare handles = list_all (λ (handle : Handle). not (is_some handle.pointer.party)) handles

-- the heap of these sizes
abbrev pub heap_with : ℕ → ℕ → ℕ → ℕ → Heap
heap_with groups spine seats board = record { groups = groups; spine = spine; seats = seats; board = board }

-- it is the heap of these sizes, within the limits
abbrev pub IsHeapOf : ℕ → ℕ → ℕ → ℕ → Heap → Type 0
IsHeapOf groups spine seats board heap = (heap ≡ heap_with groups spine seats board) × IsHeap heap

-- a table of this heap opens with this collector and these seats, in their order
pub record OpensWith (heap : Heap) (collector : Party) (seats : List Party) : Type 0 where
  pub held : CollectorHeld
  pub collector_is : collector ≡ OfCollector held
  pub of_heap : held.heap ≡ heap
  pub opening : held.known ≡ record (opening_known heap) { handed = heap.seats }
  pub turns : held.turns ≡ 0
  pub all : List SeatHeld
  pub seats_are : seats ≡ map OfSeat all
  pub numbers : map (λ (seat : SeatHeld). seat.number) all ≡ range_with_len 0 heap.seats
  pub each : All (IsOpened held.table heap) all

-- it has opened, and they are behind their handles
pub record HasOpened (heap : Heap) (first : Option Party) (others : List (Option Party)) : Type 0 where
  pub collector : Party
  pub seats : List Party
  pub opens : OpensWith heap collector seats
  pub first_is : first ≡ Some collector
  pub others_are : others ≡ map Some seats

-- there is nothing behind the one handle, nor behind any of the others
abbrev pub AllBare : Option Party → List Handle → Type 0
AllBare collector seats = (is_some collector ≡ false) × (are_bare seats ≡ true)

-- both stay as they were
abbrev pub AllStay : Option Party → Option Party → List Handle → List Handle → Type 0
AllStay old new seats then = (new ≡ old) × (then ≡ seats)

-- the heap opens behind handles that had nothing; or they stay as they were, since there is no memory, or since one had a party
abbrev pub Opens : Heap → Option Party → Option Party → List Handle → List Handle → Result (Unit {0}) Refusal → Type 0
Opens heap old new seats then (Ok done) = AllBare old seats × HasOpened heap new (behind then)
Opens heap old new seats then (Err NoMemory) = AllBare old seats × AllStay old new seats then
Opens heap old new seats then (Err IsHeld) = (¬ AllBare old seats) × AllStay old new seats then
Opens heap old new seats then (Err _) = ⊥

-- so it is where the sizes are within the limits; else that is told, and the handles stay as they were
abbrev pub OpensWithin : Heap → Option Party → Option Party → List Handle → List Handle → Result (Unit {0}) Refusal → Type 0
OpensWithin heap old new seats then answer = (IsHeap heap × Opens heap old new seats then answer) ⊎ ((¬ IsHeap heap) × (answer ≡ Err OutOfRange) × AllStay old new seats then)

-- and C is told which
abbrev pub OpensHeap : ℕ → ℕ → ℕ → Option Party → Option Party → List Handle → List Handle → ℕ → Type 0
OpensHeap groups spine board old new seats then code = (answer : Result (Unit {0}) Refusal) × OpensWithin (heap_with groups spine (length seats) board) old new seats then answer × (code ≡ answer_code answer)
