-- A seat that has left has no roots.
use Rattle.std.proofs.Common.{◌≡◌, ℕ, ◌<◌, true, IfSome, ◌∙◌, subst}
use Rattle.core_rule.proofs.Terms.{Heap, graph_of, register_value, Register, State, seat_at, register_in, register_head, Book, HoldsValue, Rule}
use Rattle.heap_model.specs.declared.id.Value.TheVariants as values
use Rattle.core_machine.specs.declared.point.Point.TheVariants as points
use Rattle.core_machine.specs.declared.seat.register.Register.TheVariants as registers
use Rattle.core_rule.specs.roots.Roots.{OfRoots}
use Rattle.core_rule.proofs.entries.AtRest.{seat_fits}
use Rattle.heap_model.proofs.graph_changes.LeftSeats.{left_registers_are_nil}

pub roots_hold_when_gone : (heap : Heap) (state : State) (book : Book) (number : ℕ) (rule : Rule heap state book) (here : number < heap.seats) → (seat_at state number).left ≡ true
    → (P : ℕ → Type 0) → OfRoots P (seat_at state number)
roots_hold_when_gone heap state book number rule here left P =
    let stands = rule.seats_stand number here in
    let idle : (seat_at state number).point ≡ points.Idle = ((seat_fits rule number here).gone left).idle in
    let empty : (r : ℕ) → register_value (graph_of heap book.history) number r ≡ values.Nil
    = left_registers_are_nil heap book.history number rule.heap_stands.legal.objects (stands.told.counts.leaves ∙ left) in
    record {
      registers = λ r. none (register_in (seat_at state number).registers r)
          (subst (HoldsValue book.made book.owner book.fragments (register_in (seat_at state number).registers r)) (empty r)
          (stands.names.registers r (rw idle (λ awaited. awaited))));
      call = rw idle tt;
    }
  where
    none : (held : Register) → HoldsValue book.made book.owner book.fragments held values.Nil → IfSome (register_head held) P
    none registers.Nil holds = tt
    none (registers.Number n) holds = tt
    none (registers.Object head id) holds = cc
