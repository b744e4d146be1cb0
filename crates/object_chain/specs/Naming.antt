-- An object is named.
use Rattle.std.specs.Prelude.{◌≡◌, ℕ, List, Some}
use Rattle.heap_words.specs.Loaded.{head_of}
use Rattle.heap_words.specs.Name.{name_in}
use Rattle.heap_words.specs.declared.name.Name.{Name}
use Rattle.core_machine.specs.declared.point.Access.TheVariants.{Naming}
use Rattle.core_machine.specs.declared.point.Point.TheVariants as points
use Rattle.core_machine.specs.declared.step.AccessStep.TheVariants.{NameLoad}
use Rattle.core_machine.specs.declared.step.Step.TheVariants.{Access}
use Rattle.core_machine.specs.machine.Machine.{State, seat_at}
use Rattle.core_machine.specs.table.Decode.{id_of_owner}
use Rattle.core_rule.specs.Book.{Book, fragment_at, id_at}
use Rattle.core_rule.specs.told.Reached.{AwaitsName}
use Rattle.core_rule.specs.Stands.{Stands}
use Rattle.heap_table.specs.Made.{Made, FoundIn}
use Rattle.heap_table.specs.SeatHeld.{SeatHeld}

-- the get in flight has found a reference to the object with this first fragment, and awaits its name
pub record BeginsNaming (held : SeatHeld) (head : ℕ) : Type 0 where
  pub point_is : held.seat.point ≡ points.Access Naming
  pub head_is : head_of held.seat.loaded ≡ Some head

-- one of these steps loaded the object's name, which is this one
pub record IsNamed (made : List Made) (head : ℕ) (name : Name) : Type 0 where
  pub word : ℕ
  pub loaded : FoundIn made (Access (NameLoad head)) word
  pub name_is : name ≡ name_in word

-- some book stands for a state with this seat, and by it the kept object that begins here, which the get's register holds by the history's graph, has this name
pub record IsHeldsName (held : SeatHeld) (head : ℕ) (name : Name) : Type 0 where
  pub state : State
  pub book : Book
  pub stands : Stands held.heap state book
  pub here : seat_at state held.number ≡ held.seat
  pub awaits : AwaitsName held.heap book held.number held.seat
  pub begins : fragment_at (book.fragments awaits.object) 0 ≡ head
  pub name_is : id_of_owner name.owner name.count ≡ id_at book.made awaits.object
