-- What leads within the heap, where something leads on.
use Rattle.std.proofs.Common.{zero, suc, ℕ, ◌*◌, ◌%◌, ◌<◌, ◌≤◌, List, [], ◌∷◌, length, get_or, Option, Some, None, inl, inr, arith, subst, sym}
use Rattle.std.specs.Prelude.{IsSome, unwrap_or}
use Rattle.std.specs.List.{All}
use Rattle.std.proofs.lemmas.Bool.Decides.{eqb_tells, leb_tells}
use Rattle.heap_words.specs.Cell.{cell_of}
use Rattle.heap_words.specs.declared.cell.Cell.{Cell}
use Rattle.heap_words.specs.declared.kind.Kind.{Kind}
use Rattle.heap_words.specs.declared.kind.Kind.TheVariants as kinds
use Rattle.core_machine.proofs.Terms.{Heap, Register, Nil, Number, Object, head_of, pointer_in, first_pointer, reference_of, IsWithinHeap, register_head, heads_of, register_in}
use Rattle.core_machine.proofs.Terms.{Seat, FitsRegister, Fits}
use Rattle.core_machine.specs.seat.Handshake.{roots}
use Rattle.std.proofs.lemmas.List.{get_or_past}
use Rattle.heap_model.specs.PhasePlan.{cycle_phases, marking as marking_phase}

-- so does a cell that is a fragment's first word
first_leads : (heap : Heap) (kind : Kind) (cell : Cell) → IsWithinHeap heap (first_pointer kind cell) → IsWithinHeap heap (reference_of kind cell.value)
first_leads heap kinds.Nil cell led = tt
first_leads heap kinds.Number cell led = tt
first_leads heap kinds.Reference cell led = led
first_leads heap kinds.Fixed cell led = tt

-- a field leads where it refers to, in whichever word of its fragment it stands
pub head_leads_within_heap : (heap : Heap) (part found : ℕ) → IsWithinHeap heap (pointer_in part found) → IsWithinHeap heap (head_of found)
head_leads_within_heap heap part found led =
    elim (eqb_tells part 0) as (λ _. IsWithinHeap heap (head_of found)) [
      | inl first ↦ first_leads heap (cell_of found).kind (cell_of found) (rw first.0 at led)
      | inr later ↦ rw later.0 at led
    ]

-- what is there is within
pub some_fragment_within_heap : (heap : Heap) (fragment : Option ℕ) → IsSome fragment → IsWithinHeap heap fragment → unwrap_or fragment 0 < 16 * heap.groups
some_fragment_within_heap heap None some led = cc
some_fragment_within_heap heap (Some f) some led = led

-- so is a register's object
pub register_head_within_heap : (heap : Heap) (register : Register) → IsSome (register_head register) → FitsRegister heap register → unwrap_or (register_head register) 0 < 16 * heap.groups
register_head_within_heap heap Nil some fit = cc
register_head_within_heap heap (Number n) some fit = cc
register_head_within_heap heap (Object head id) some fit = fit

-- and each object of the registers
heads_within : (heap : Heap) (registers : List Register) (i : ℕ) → All (FitsRegister heap) registers → i < length (heads_of registers)
    → get_or (heads_of registers) i 0 < 16 * heap.groups
heads_within heap [] i fit within = absurd (omega arith)
heads_within heap (Nil ∷ more) i fit within = heads_within heap more i (λ j d l. fit (suc j) d (omega arith)) within
heads_within heap (Number n ∷ more) i fit within = heads_within heap more i (λ j d l. fit (suc j) d (omega arith)) within
heads_within heap (Object head id ∷ more) zero fit within = fit 0 Nil (omega arith)
heads_within heap (Object head id ∷ more) (suc i) fit within = heads_within heap more i (λ j d l. fit (suc j) d (omega arith)) (omega arith)

pub roots_within_heap : (heap : Heap) (seat : Seat) (i : ℕ) → Fits heap seat → i < length (roots seat) → get_or (roots seat) i 0 < 16 * heap.groups
roots_within_heap heap seat i fits within =
    elim (eqb_tells (seat.asked % cycle_phases) marking_phase) as (λ _. i < length (roots seat) → get_or (roots seat) i 0 < 16 * heap.groups) [
      | inl third ↦ rw third.0 (λ l. heads_within heap seat.registers i fits.own.registers_fit l)
      | inr other ↦ rw other.0 (λ l. absurd (omega arith))
    ] within

-- there are at most as many as registers
pub few_heads : (registers : List Register) → length (heads_of registers) ≤ length registers
few_heads [] = omega arith
few_heads (Nil ∷ more) = let rest = few_heads more in omega arith
few_heads (Number n ∷ more) = let rest = few_heads more in omega arith
few_heads (Object head id ∷ more) = let rest = few_heads more in omega arith

pub roots_within_register_count : (seat : Seat) → length (roots seat) ≤ length seat.registers
roots_within_register_count seat =
    let few = few_heads seat.registers in
    elim (eqb_tells (seat.asked % cycle_phases) marking_phase) as (λ _. length (roots seat) ≤ length seat.registers) [ inl third ↦ rw third.0 few | inr other ↦ rw other.0 (omega arith) ]

-- one of the registers
pub each_register_fits : (heap : Heap) (registers : List Register) (r : ℕ) → All (FitsRegister heap) registers → FitsRegister heap (register_in registers r)
each_register_fits heap registers r fit =
    elim (leb_tells (suc r) (length registers)) as (λ _. FitsRegister heap (register_in registers r)) [
      | inl within ↦ fit r Nil within.1
      | inr past ↦ subst (FitsRegister heap) (sym (get_or_past registers r Nil (omega (arith, past.1)))) tt
    ]
