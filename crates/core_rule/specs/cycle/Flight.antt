-- What a set, a compare and swap and an answer in flight have loaded and shaded.
use Rattle.std.specs.Prelude.{◌≡◌, ℕ, ◌%◌, ◌<◌, ◌⊎◌, List, length, take, Option, Some, None, IfSome}
use Rattle.std.specs.List.{filter_map}
use Rattle.heap_model.specs.declared.heap.Heap.{Heap}
use Rattle.heap_model.specs.PhasePlan.{cycle_phases, barriers, black_births, marking, sweep}
use Rattle.core_machine.specs.declared.point.Point.{Point}
use Rattle.core_machine.specs.declared.point.Point.TheVariants as points
use Rattle.core_machine.specs.declared.point.Polling.{Polling}
use Rattle.core_machine.specs.declared.point.Polling.TheVariants.{Asking, Shading, Answering}
use Rattle.core_machine.specs.declared.point.Access.{Access}
use Rattle.core_machine.specs.declared.point.Access.TheVariants.{ShadingOld, ShadingNew, Swapping, ShadingSide, Replacing}
use Rattle.core_machine.specs.declared.point.Side.{Side}
use Rattle.core_machine.specs.declared.point.Side.TheVariants.{Expected, New}
use Rattle.core_machine.specs.declared.seat.register.Register.{Register}
use Rattle.heap_words.specs.Loaded.{head_of}
use Rattle.core_machine.specs.seat.Access.{side_register_of}
use Rattle.core_machine.specs.seat.AccessMoves.{new_register_of}
use Rattle.core_machine.specs.seat.Registers.{register_in, register_head}
use Rattle.core_machine.specs.seat.Seat.{Seat}
use Rattle.core_rule.specs.Book.{Colour}
use Rattle.core_rule.specs.colours.Colours.{IsMarked, WordPointsTo, IsBetween}

-- what word `part` of the fragment leads to is marked, or is the value `old` that was loaded from it
abbrev pub DeletionBarrier : Heap → List ℕ → (ℕ → Colour) → ℕ → ℕ → Option ℕ → Type 0
DeletionBarrier heap words colour f part old = (g : ℕ) → WordPointsTo heap words f part g → (old ≡ Some g) ⊎ IsMarked colour g

-- what is true of the field of a set past its load of the old value
abbrev pub FieldStands : Heap → List ℕ → (ℕ → Colour) → Seat → Access → Type 0
FieldStands heap words colour seat ShadingOld = DeletionBarrier heap words colour seat.reached seat.part (head_of seat.loaded)
FieldStands heap words colour seat ShadingNew = DeletionBarrier heap words colour seat.reached seat.part None
FieldStands heap words colour seat Swapping = DeletionBarrier heap words colour seat.reached seat.part None
FieldStands heap words colour seat _ = Unit {0}

-- the value of a compare and swap is marked, where it is an object
abbrev pub IsSideMarked : (ℕ → Colour) → Seat → Side → Type 0
IsSideMarked colour seat side = IfSome (register_head (side_register_of seat side)) (IsMarked colour)

-- once shaded a set's old value is marked, and so is the one that a compare and swap expects; at the swap both values are, where the last answer is from barriers to the sweep
abbrev pub ShadedStands : (ℕ → Colour) → Seat → Access → Type 0
ShadedStands colour seat ShadingNew = IfSome (head_of seat.loaded) (IsMarked colour)
ShadedStands colour seat Swapping = IsBetween barriers sweep seat.answered
    → IfSome (head_of seat.loaded) (IsMarked colour) × IfSome (register_head (new_register_of seat)) (IsMarked colour)
ShadedStands colour seat (ShadingSide New) = IsSideMarked colour seat Expected
ShadedStands colour seat Replacing = IsBetween barriers sweep seat.answered → IsSideMarked colour seat Expected × IsSideMarked colour seat New
ShadedStands colour seat _ = Unit {0}

-- what holds at the points of access
abbrev pub WhileAccess : (Access → Type 0) → Point → Type 0
WhileAccess P (points.Access point) = P point
WhileAccess P _ = Unit {0}

-- the object that the register holds is marked, where it holds one
abbrev pub IsRootMarked : (ℕ → Colour) → List Register → ℕ → Type 0
IsRootMarked colour registers r = IfSome (register_head (register_in registers r)) (IsMarked colour)

-- how many of the registers before this one hold an object
abbrev pub objects_before : List Register → ℕ → ℕ
objects_before registers r = length (filter_map register_head (take r registers))

-- the registers' objects are marked in their order, so many so far; and before the answer each of them is
abbrev pub RootsStand : (ℕ → Colour) → Seat → Polling → Type 0
RootsStand colour seat Asking = Unit {0}
RootsStand colour seat Shading = (r : ℕ) → objects_before seat.registers r < seat.shaded → IsRootMarked colour seat.registers r
RootsStand colour seat Answering = (r : ℕ) → IsRootMarked colour seat.registers r

-- what holds at the points of polling
abbrev pub WhilePolling : (Polling → Type 0) → Point → Type 0
WhilePolling P (points.Polling point) = P point
WhilePolling P _ = Unit {0}

-- of a set in flight no value is lost unmarked, and what a set, a compare and swap or an answer in flight has shaded is marked
pub record Flight (heap : Heap) (words : List ℕ) (colour : ℕ → Colour) (phase : ℕ) (seat : Seat) : Type 0 where
  -- no value is lost once the seat has answered the cycle's phase of black births
  pub set : IsBetween black_births sweep phase → IsBetween black_births sweep seat.answered → WhileAccess (FieldStands heap words colour seat) seat.point
  pub shaded : IsBetween barriers sweep phase → WhileAccess (ShadedStands colour seat) seat.point
  -- an answer that marking begins has shaded the objects of its seat's registers
  pub roots : seat.asked % cycle_phases ≡ marking → WhilePolling (RootsStand colour seat) seat.point
