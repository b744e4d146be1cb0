-- What a seat's step needs of its command and of the word found, and what a step without entries leaves.
use Rattle.std.specs.Prelude.{IfSome}
use Rattle.std.proofs.Common.{suc, ◌≡◌, ℕ, ◌+◌, ◌<◌, ◌≤◌, ◌^◌, [], List, Option, Some, None, inl, inr, refl, subst, sym, ap, ◌∙◌, append-nil, arith}
use Rattle.std.proofs.lemmas.Bool.Decides.{leb_tells}
use Rattle.heap_model.specs.Limits.{register_count, last_index}
use Rattle.heap_model.specs.Command.{IsCommand}
use Rattle.core_machine.proofs.Terms.{Heap, IsHeap, Entry, Command, New, Array, Get, Set, Cas, target_of, source_of, field_of, IsWithinHeap, Seat, spine_need, after_budget, Point, SeatWithRoom}
use Rattle.heap_model.specs.declared.command.Command.TheVariants.{Num, Nil, Copy}
use Rattle.core_machine.specs.seat.Seat.{with_entries}
use Rattle.core_machine.proofs.seat_lemmas.Fitting.{goes_on_cases}

-- each register that a command names is one of the seat's
pub target_is_register : (command : Command) → IsCommand command → target_of command < register_count
target_is_register (New d fields) range = omega (arith, range.0.1)
target_is_register (Array d cells) range = omega (arith, range.0.1)
target_is_register (Get d r i) range = omega (arith, range.0.1)
target_is_register (Num d n) range = omega (arith, range.0.1)
target_is_register (Nil d) range = omega (arith, range.1)
target_is_register (Copy d r) range = omega (arith, range.0.1)
target_is_register _ range = omega arith

pub source_is_register : (command : Command) → IsCommand command → source_of command < register_count
source_is_register (Set r i v) range = omega (arith, range.2)
source_is_register (Cas r i a v) range = omega (arith, range.3)
source_is_register (Copy d r) range = omega (arith, range.1)
source_is_register _ range = omega arith

-- and each index is within the limit
pub field_is_index : (command : Command) → IsCommand command → field_of command ≤ last_index
field_is_index (Get d r i) range = omega (arith, range.2)
field_is_index (Set r i v) range = omega (arith, range.1)
field_is_index (Cas r i a v) range = omega (arith, range.1)
field_is_index _ range = omega arith

-- what is within the heap fits sixteen bits
pub within_heap_is_small : (heap : Heap) (fragment : Option ℕ) → IsHeap heap → IsWithinHeap heap fragment → IfSome fragment (λ f. f < 2 ^ 16)
within_heap_is_small heap None limits within = tt
within_heap_is_small heap (Some f) limits within = omega arith

-- a step that adds no entries leaves the seat that it tells of
pub adds_nothing : (seat next : Seat) → next ≡ seat → next ≡ with_entries seat []
adds_nothing seat next is = is ∙ ap (λ (l : List Entry). record seat { mine = l }) (sym (append-nil seat.mine))

-- what was granted to a call adds none
pub budget_adds_nothing : (heap : Heap) (seat : Seat) (found : ℕ) → (after_budget heap seat found).mine ≡ seat.mine
budget_adds_nothing heap seat found =
    elim (leb_tells (suc heap.spine) (found + spine_need seat)) as (λ _. (after_budget heap seat found).mine ≡ seat.mine) [
      | inl many ↦ rw many.0 refl
      | inr few ↦ rw few.0 (goes_on_cases (λ s. s.mine ≡ seat.mine) heap seat (λ _. refl) (λ _ _. refl) (λ _ _. refl))
    ]

-- a party's seat stands where its point says
pub point_is : (party value : SeatWithRoom) (point : Point) → party ≡ value → party.seat.point ≡ point → value.seat.point ≡ point
point_is party value point view at = subst (λ (p : SeatWithRoom). p.seat.point ≡ point) view at
