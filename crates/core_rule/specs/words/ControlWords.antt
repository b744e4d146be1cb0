-- A fragment's bits in its group's control word. The taken and the born ones are those of its owner.
use Rattle.std.specs.Prelude.{◌≡◌, ℕ, ◌*◌, ◌/◌, ◌<◌, ◌≤◌, List}
use Rattle.std.specs.Int.{bit_at}
use Rattle.heap_words.specs.Control.{born_at, marked_at, taken_at}
use Rattle.heap_model.specs.declared.heap.Heap.{Heap}
use Rattle.core_machine.specs.declared.table.address.Address.TheVariants.{Control}
use Rattle.core_machine.specs.table.Layout.{at}
use Rattle.core_rule.specs.owners.Owners.{Owner, Free, taken_bit, born_bit}

-- the control word of the fragment's group
abbrev pub control_of : Heap → List ℕ → ℕ → ℕ
control_of heap words f = at heap words (Control (f / 16))

-- the fragment's taken bit is set
abbrev pub IsTaken : Heap → List ℕ → ℕ → Type 0
IsTaken heap words f = bit_at (control_of heap words f) (taken_at f) ≡ 1

-- the fragment's born bit is set
abbrev pub IsBorn : Heap → List ℕ → ℕ → Type 0
IsBorn heap words f = bit_at (control_of heap words f) (born_at f) ≡ 1

-- the fragment's marked bit is set
abbrev pub IsMarkedIn : Heap → List ℕ → ℕ → Type 0
IsMarkedIn heap words f = bit_at (control_of heap words f) (marked_at f) ≡ 1

-- the taken and the born bits are those of the owners
pub record Bits (heap : Heap) (words : List ℕ) (owner : ℕ → Owner) : Type 0 where
  pub taken : (f : ℕ) → f < 16 * heap.groups → bit_at (control_of heap words f) (taken_at f) ≡ taken_bit (owner f)
  pub born : (f : ℕ) → f < 16 * heap.groups → bit_at (control_of heap words f) (born_at f) ≡ born_bit (owner f)
  pub outside : (f : ℕ) → 16 * heap.groups ≤ f → owner f ≡ Free
