-- What is true of the heap and of a seat in the phases of a cycle.
use Rattle.std.specs.Prelude.{◌≡◌, ℕ, Bool, List}
use Rattle.heap_model.specs.declared.heap.Heap.{Heap}
use Rattle.core_machine.specs.declared.table.address.Address.TheVariants.{Phase}
use Rattle.core_machine.specs.table.Layout.{at}
use Rattle.core_machine.specs.seat.Seat.{Seat}
use Rattle.core_rule.specs.owners.Owners.{Owner}
use Rattle.core_rule.specs.Book.{Colour}
use Rattle.core_rule.specs.colours.Colours.{Marks, Coloured, BornColours}
use Rattle.core_rule.specs.cycle.Phases.{AnswersAgree, AnswerStands}
use Rattle.core_rule.specs.cycle.Flight.{Flight}

-- the phase word is the history's phase, and the control words have the colours, which are right
pub record HeapInCycle (heap : Heap) (words : List ℕ) (phase : ℕ) (owner : ℕ → Owner) (colour : ℕ → Colour) (fragments : ℕ → List ℕ) : Type 0 where
  pub word : at heap words Phase ≡ phase
  pub marks : Marks heap words colour
  pub coloured : Coloured heap words owner colour fragments phase

-- what the seat has answered, what it is about to answer, what it has in flight, and the colour of its births are right
pub record SeatInCycle (heap : Heap) (words : List ℕ) (phase answers : ℕ) (gone : Bool) (owner : ℕ → Owner) (colour : ℕ → Colour) (number : ℕ) (seat : Seat) : Type 0 where
  pub answers_told : AnswersAgree heap words phase answers gone number seat.left seat.answered seat.asked
  pub answer : AnswerStands phase seat.answered seat.asked seat.point
  pub flight : Flight heap words colour phase seat
  pub births : BornColours owner colour number seat.answered
