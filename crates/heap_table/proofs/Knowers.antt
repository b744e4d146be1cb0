-- Whose view it is: that of a seat's holder stands behind the first, which is the collector's.
use Rattle.std.proofs.Common.{zero, suc, ◌≡◌, ℕ, ◌<◌, [], length, sym, refl, ap, subst, ◌∙◌, arith}
use mathlib.Core.Option.{Option as Found, some, some-injective}
use lib.ListN.{get_elem?}
use Rattle.atomic_table.specs.Table.{State as Table}
use Rattle.heap_model.specs.declared.heap.Heap.{Heap}
use Rattle.core_machine.specs.machine.Machine.{seat_at}
use Rattle.core_machine.specs.seat.Seat.{Seat}
use Rattle.heap_table.specs.Holds.{IsSeatOf, Holds}
use Rattle.heap_table.specs.Known.{CollectorKnown}
use Rattle.heap_table.specs.Views.{seat_view, collector_view, known_by}
use Rattle.heap_table.specs.declared.view.View.{View}
use Rattle.heap_table.specs.declared.view.View.TheVariants.{Spent}
use Rattle.heap_table.proofs.Positions.{position_within_list, list_without_elements_is_empty}

-- the token is that of the holder of this seat
pub record IsSeats (heap : Heap) (table : Table (Unit {0}) View) (id number : ℕ) (old : Seat) (holds : Holds heap table) : Type 0 where
  pub id_is : id ≡ suc number
  pub within : number < heap.seats
  pub has_view : suc number < length table.views
  pub viewed : get_elem? table.views (suc number) ≡ some (seat_view number old)
  pub seat_is : seat_at holds.state number ≡ old
  pub unread : holds.known.closed ≡ []

-- a seat's view is neither the collector's nor spent
pub not_collectors : (known : CollectorKnown) (number : ℕ) (seat : Seat) → collector_view known ≡ seat_view number seat → ⊥
not_collectors known number seat e = cc

pub holder_is_not_spent : (number : ℕ) (seat : Seat) → Spent ≡ seat_view number seat → ⊥
holder_is_not_spent number seat e = cc

pub holder_is_seats : (heap : Heap) (table : Table (Unit {0}) View) (id number : ℕ) (old : Seat) (holds : Holds heap table) → get_elem? table.views id ≡ some (seat_view number old)
    → IsSeats heap table id number old holds
holder_is_seats heap table zero number old holds at = absurd (not_collectors holds.known number old (some-injective _ _ (sym holds.is.knows ∙ at)))
holder_is_seats heap table (suc s) number old holds at =
    let below = position_within_list table.views (suc s) (seat_view number old) at in
    let within : s < heap.seats = omega (arith, below, holds.is.counted, holds.is.few) in
    let seat = subst (λ (v : Found View). IsSeatOf heap holds.known.seats s v (seat_at holds.state s)) at (holds.is.seats_are s within) in
    record {
      id_is = ap suc (sym seat.0);
      within = rw seat.0 within;
      has_view = rw seat.0 below;
      viewed = subst (λ (n : ℕ). get_elem? table.views (suc n) ≡ some (seat_view number old)) (sym seat.0) at;
      seat_is = ap (seat_at holds.state) seat.0 ∙ sym seat.1;
      unread = list_without_elements_is_empty holds.known.closed (λ some_read. holder_is_not_spent number old (some-injective _ _ (sym (holds.is.still some_read s within) ∙ at)));
    }

-- the token is that of the collector's holder
pub record IsCollectors (heap : Heap) (table : Table (Unit {0}) View) (id : ℕ) (known : CollectorKnown) (holds : Holds heap table) : Type 0 where
  pub id_is : id ≡ 0
  pub known_is : holds.known ≡ known
  pub has_view : 0 < length table.views

pub holder_is_collectors : (heap : Heap) (table : Table (Unit {0}) View) (id : ℕ) (known : CollectorKnown) (holds : Holds heap table) → get_elem? table.views id ≡ some (collector_view known)
    → IsCollectors heap table id known holds
holder_is_collectors heap table zero known holds at = record {
  id_is = refl;
  known_is = ap known_by (some-injective _ _ (sym holds.is.knows ∙ at));
  has_view = position_within_list table.views 0 (collector_view known) at;
}
holder_is_collectors heap table (suc s) known holds at =
    let below = position_within_list table.views (suc s) (collector_view known) at in
    absurd (subst (λ (v : Found View). IsSeatOf heap holds.known.seats s v (seat_at holds.state s)) at (holds.is.seats_are s (omega (arith, below, holds.is.counted, holds.is.few))))
