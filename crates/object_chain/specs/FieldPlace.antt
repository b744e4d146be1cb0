-- Where a field stands, by the rule of the table.
use Rattle.std.specs.Prelude.{◌≡◌, ℕ}
use Rattle.core_machine.specs.machine.Machine.{State, seat_at}
use Rattle.core_machine.specs.seat.Commands.{field_of}
use Rattle.core_rule.specs.Book.{Book, fragment_at}
use Rattle.core_rule.specs.told.Reached.{IsFieldPlace}
use Rattle.core_rule.specs.Stands.{Stands}
use Rattle.heap_table.specs.SeatHeld.{SeatHeld}

-- some book stands for a state with this seat, and by it the call's field, of this number, of the object that begins at `head` stands in this fragment and this word of it
pub record IsPlaceOfField (held : SeatHeld) (head field fragment part : ℕ) : Type 0 where
  pub state : State
  pub book : Book
  pub stands : Stands held.heap state book
  pub here : seat_at state held.number ≡ held.seat
  pub place : IsFieldPlace held.heap book held.number held.seat
  pub begins : fragment_at (book.fragments place.object) 0 ≡ head
  pub field_is : field_of held.seat.command ≡ field
  pub fragment_is : held.seat.reached ≡ fragment
  pub part_is : held.seat.part ≡ part
