-- What the rule tells of the word that a seat's due step finds.
use Rattle.std.specs.Prelude.{◌≡◌, ℕ, ◌+◌, ◌^◌, ◌<◌, ◌≤◌, ◌⊎◌, if◌then◌else◌, length, Some, None, IfSome}
use Rattle.heap_words.specs.declared.phase.TheConstants.{LEFT}
use Rattle.heap_words.specs.Loaded.{length_of, array_length_of}
use Rattle.heap_model.specs.calls.SeatState.{own_object}
use Rattle.heap_model.specs.declared.heap.Heap.{Heap}
use Rattle.heap_model.specs.graph.Graph.{Node}
use Rattle.core_machine.specs.declared.step.AccessStep.TheVariants.{WalkLoad}
use Rattle.core_machine.specs.declared.step.Step.{Step}
use Rattle.core_machine.specs.declared.step.SpineStep.TheVariants.{BudgetAdd}
use Rattle.core_machine.specs.declared.step.Step.TheVariants.{PollLoad, Access, Spine, Turning}
use Rattle.core_machine.specs.declared.step.TurningStep.TheVariants.{LookLoad}
use Rattle.core_machine.specs.machine.Machine.{State, seat_at, found_by}
use Rattle.core_machine.specs.Moves.{due_step}
use Rattle.core_machine.specs.seat.Registers.{register_in, register_head}
use Rattle.core_machine.specs.seat.Seat.{Seat}
use Rattle.core_rule.specs.Book.{Book}
use Rattle.core_rule.specs.cycle.Flight.{WhileAccess}
use Rattle.core_rule.specs.told.Reached.{ReachesInBook}
use Rattle.core_rule.specs.Stands.{Stands}
use Rattle.core_rule.specs.told.Told.{own_state}

-- the phase is the one that was answered last, or the next
abbrev pub IsAnsweredOrNext : ℕ → ℕ → Type 0
IsAnsweredOrNext answered phase = (phase ≡ answered) ⊎ (phase ≡ answered + 1)

-- another's answer is behind the phase by one at most, and ahead of what was answered here by one at most
pub record IsNearBoth (phase answered answer : ℕ) : Type 0 where
  pub behind : phase ≤ answer + 1
  pub ahead : answer ≤ answered + 1

-- the word of another seat tells that it has left, or an answer near to the phase that this seat loaded last and to its own answer
abbrev pub TellsAnswer : Seat → ℕ → Type 0
TellsAnswer seat found = (found ≡ LEFT) ⊎ IsNearBoth seat.looks.seen seat.answered found

-- the word tells how many cells the object has, and whether it is an array
pub record IsMetaOf (object : Node) (word : ℕ) : Type 0 where
  pub length_is : length_of word ≡ length object.cells
  pub kind_is : array_length_of word ≡ (if object.array then Some (length object.cells) else None)

-- the word is the meta of each object that begins at the fragment and that a register holds, where that is the board or the seat made it
abbrev pub TellsMeta : Heap → ℕ → Seat → ℕ → ℕ → Type 0
TellsMeta heap number seat fragment found =
    (r : ℕ) → register_head (register_in seat.registers r) ≡ Some fragment → IfSome (own_object (own_state heap number seat) r) (λ object. IsMetaOf object found)

-- what is told of the word that a step of a seat has found; a budget word has thirty-two bits, so a refusal shows it whole
abbrev pub TellsWord : Heap → ℕ → Seat → Step → ℕ → Type 0
TellsWord heap number seat PollLoad found = IsAnsweredOrNext seat.answered found
TellsWord heap number seat (Access (WalkLoad fragment)) found = TellsMeta heap number seat fragment found
TellsWord heap number seat (Spine (BudgetAdd words)) found = found < 2 ^ 32
TellsWord heap number seat (Turning (LookLoad other)) found = TellsAnswer seat found
TellsWord heap number seat _ found = Unit {0}

-- what is told at a seat's due step that found this word: of the word, and of what a call on an object has reached before it
pub record TellsFound (heap : Heap) (number : ℕ) (seat : Seat) (found : ℕ) : Type 0 where
  pub word : IfSome (due_step heap number seat) (λ step. TellsWord heap number seat step found)
  pub reached : WhileAccess (ReachesInBook heap number seat found) seat.point

-- from any state that a book stands for, so much is told at each seat's due step
unfoldable pub EachFoundIsTold : Type 0
EachFoundIsTold = (heap : Heap) (state : State) (book : Book) (number : ℕ) → Stands heap state book → number < heap.seats
    → IfSome (due_step heap number (seat_at state number)) (λ step. TellsFound heap number (seat_at state number) (found_by heap state step))
