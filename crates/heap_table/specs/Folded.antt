-- The seats that were folded in, and where their entries stand then.
use Rattle.std.specs.Prelude.{◌≡◌, ℕ, ◌<◌, ◌≤◌, false, List, ◌∷◌, ◌++◌, Option, Some}
use mathlib.Core.Option.{some}
use lib.ListN.{get_elem?}
use Rattle.heap_model.specs.declared.entry.Entry.{Entry}
use Rattle.heap_model.specs.declared.heap.Heap.{Heap}
use Rattle.heap_model.specs.account.Noting.{is_collectors}
use Rattle.heap_model.specs.account.PhaseCounts.{phase}
use Rattle.core_machine.specs.seat.Seat.{Seat}

-- the seat of this number was folded in with these data
abbrev pub IsFolded : List (Option Seat) → ℕ → Seat → Type 0
IsFolded seats number seat = get_elem? seats number ≡ some (Some seat)

-- every seat was folded in
abbrev pub AllFolded : Heap → List (Option Seat) → Type 0
AllFolded heap seats = (number : ℕ) → number < heap.seats → (seat : Seat) × IsFolded seats number seat

-- every entry of a seat stands before each phase above this one
abbrev pub SeatsBefore : ℕ → List Entry → Type 0
SeatsBefore folded history = (before rest : List Entry) (entry : Entry) → history ≡ before ++ entry ∷ rest → is_collectors entry ≡ false → phase before ≤ folded
