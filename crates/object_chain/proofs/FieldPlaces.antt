-- Where a call has come to its field, the field of its object stands by some book.
use Rattle.std.proofs.Common.{◌≡◌, ℕ, Some, refl, sym, ap, ◌∙◌, subst}
use Rattle.core_machine.specs.declared.point.Access.TheVariants.{LoadingMeta, Getting, LoadingOld, Swapping, ShadingSide, Replacing}
use Rattle.core_machine.specs.declared.point.Point.{Point}
use Rattle.core_machine.specs.declared.point.Point.TheVariants as points
use Rattle.core_machine.specs.machine.Machine.{State, seat_at}
use Rattle.core_machine.specs.seat.Commands.{object_of, field_of}
use Rattle.core_machine.specs.seat.Registers.{register_in, register_head}
use Rattle.core_machine.specs.seat.Seat.{Seat}
use Rattle.core_rule.specs.Book.{Book, fragment_at}
use Rattle.core_rule.specs.cycle.Flight.{WhileAccess}
use Rattle.core_rule.specs.told.Reached.{IsOnObject, IsFieldPlace, HasReached, ReachesInBook}
use Rattle.core_rule.specs.Stands.{Stands}
use Rattle.heap_model.specs.declared.heap.Heap.{Heap}
use Rattle.heap_table.specs.SeatHeld.{SeatHeld}
use Rattle.heap_table.specs.Told.{ToldAtStep}
use Rattle.object_chain.specs.FieldPlace.{IsPlaceOfField}
use Rattle.object_chain.specs.Walking.{IsAtField}

-- the command's register holds the object that begins here
abbrev pub HoldsHead : Seat → ℕ → Type 0
HoldsHead seat head = register_head (register_in seat.registers (object_of seat.command)) ≡ Some head

-- a call that has reached a fragment of its object holds that object by its first one
on_head : (heap : Heap) (book : Book) (number : ℕ) (seat : Seat) (object row : ℕ) → IsOnObject heap book number seat object row → HoldsHead seat (fragment_at (book.fragments object) 0)
on_head heap book number seat object row on = ap register_head on.holds

-- where the meta of an object is loaded, that is the object that the register holds
pub loaded_meta_is_heads : (heap : Heap) (number : ℕ) (seat : Seat) (found : ℕ) → seat.point ≡ points.Access LoadingMeta → ToldAtStep heap number seat found → HoldsHead seat seat.reached
loaded_meta_is_heads heap number seat found loading told =
    let reached : ReachesInBook heap number seat found LoadingMeta = subst (WhileAccess (ReachesInBook heap number seat found)) loading told.tells.reached in
    let first = reached.there.reaches in
    on_head heap reached.there.book number seat first.object 0 first.on ∙ ap Some (sym first.on.in_order)

module _ (held : SeatHeld) (head : ℕ) (holds : HoldsHead held.seat head) where
  of_book : (state : State) (book : Book) → Stands held.heap state book → seat_at state held.number ≡ held.seat → IsFieldPlace held.heap book held.number held.seat
      → IsPlaceOfField held head (field_of held.seat.command) held.seat.reached held.seat.part
  of_book state book stands here place = record {
    state = state;
    book = book;
    stands = stands;
    here = here;
    place = place;
    begins = cc (on_head held.heap book held.number held.seat place.object place.row place.on, holds);
    field_is = refl;
    fragment_is = refl;
    part_is = refl;
  }

  at_point : (point : Point) → IsAtField point → WhileAccess (HasReached held.heap held.number held.seat) point → IsPlaceOfField held head (field_of held.seat.command) held.seat.reached held.seat.part
  at_point (points.Access Getting) at reached = of_book reached.state reached.book reached.stands reached.here reached.reaches
  at_point (points.Access LoadingOld) at reached = of_book reached.state reached.book reached.stands reached.here reached.reaches
  at_point (points.Access Swapping) at reached = of_book reached.state reached.book reached.stands reached.here reached.reaches
  at_point (points.Access (ShadingSide side)) at reached = of_book reached.state reached.book reached.stands reached.here reached.reaches
  at_point (points.Access Replacing) at reached = of_book reached.state reached.book reached.stands reached.here reached.reaches
  at_point _ at reached = absurd at

  -- at a field the place that the seat has reached is the field's
  pub reached_place_is_fields : IsAtField held.seat.point → WhileAccess (HasReached held.heap held.number held.seat) held.seat.point → IsPlaceOfField held head (field_of held.seat.command) held.seat.reached held.seat.part
  reached_place_is_fields at reached = at_point held.seat.point at reached
