-- The roots of a seat, to which marking comes.
use Rattle.std.specs.Prelude.{◌≡◌, ℕ, ◌%◌, List, IfSome}
use Rattle.heap_model.specs.declared.heap.Heap.{Heap}
use Rattle.heap_model.specs.PhasePlan.{cycle_phases, marking}
use Rattle.core_machine.specs.collector.Collector.{Collector}
use Rattle.core_machine.specs.declared.point.Access.{Access}
use Rattle.core_machine.specs.declared.point.Access.TheVariants.{Naming, ShadingOld}
use Rattle.core_machine.specs.seat.Registers.{register_in, register_head}
use Rattle.core_machine.specs.seat.Seat.{Seat}
use Rattle.heap_words.specs.Loaded.{head_of}
use Rattle.core_rule.specs.Book.{Colour}
use Rattle.core_rule.specs.cycle.Flight.{WhileAccess}
use Rattle.core_rule.specs.owners.Owners.{Owner}
use Rattle.core_rule.specs.marking.Paths.{IsReached}
use Rattle.core_rule.specs.marking.Sweep.{HasMarked}

-- the phase is one of marking, which hasn't ended
pub record IsInMarking (collector : Collector) : Type 0 where
  pub phase : collector.phase % cycle_phases ≡ marking
  pub goes_on : ¬ HasMarked collector.stage

-- `P` holds of what a call on a field has reached, and of the old value or the object that it has loaded
abbrev pub AtCall : (ℕ → Type 0) → Seat → Access → Type 0
AtCall P seat Naming = IfSome (head_of seat.loaded) P
AtCall P seat ShadingOld = P seat.reached × IfSome (head_of seat.loaded) P
AtCall P seat _ = P seat.reached

-- `P` holds of each root of a seat: of the objects in its registers, and of what its call has reached and loaded
pub record OfRoots (P : ℕ → Type 0) (seat : Seat) : Type 0 where
  pub registers : (r : ℕ) → IfSome (register_head (register_in seat.registers r)) P
  pub call : WhileAccess (AtCall P seat) seat.point

-- until marking has ended it comes to each root of a seat that has answered its phase
abbrev pub RootsAreReached : Heap → List ℕ → (ℕ → Owner) → (ℕ → Colour) → Collector → Seat → Type 0
RootsAreReached heap words owner colour collector seat = IsInMarking collector → seat.answered ≡ collector.phase → OfRoots (IsReached heap words owner colour) seat
