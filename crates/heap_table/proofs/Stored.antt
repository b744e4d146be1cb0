-- What is told of the word that a step stores.
use Rattle.std.proofs.Common.{◌≡◌, ℕ, refl}
use Rattle.atomic_table.specs.Table.{Me}
use Rattle.core_machine.specs.declared.step.operation.Operation.{Operation}
use Rattle.core_machine.specs.declared.step.operation.Operation.TheVariants.{Load, Store, Exchange, CompareExchange, Or, And, Add, Subtract}
use Rattle.heap_table.specs.Told.{TellsStored}
use Rattle.heap_table.specs.declared.view.View.{View}

-- only of a store need it be told of the word stored
pub tells_stored_of_store : (operation : Operation) (tells : ℕ → Me (Unit {0}) View → Type 0)
    → ((word : ℕ) → operation ≡ Store word → (found : ℕ) (after : Me (Unit {0}) View) → tells found after → tells word after) → TellsStored operation tells
tells_stored_of_store Load tells of_store = tt
tells_stored_of_store (Store word) tells of_store = of_store word refl
tells_stored_of_store (Exchange word) tells of_store = tt
tells_stored_of_store (CompareExchange old new) tells of_store = tt
tells_stored_of_store (Or bits) tells of_store = tt
tells_stored_of_store (And bits) tells of_store = tt
tells_stored_of_store (Add k) tells of_store = tt
tells_stored_of_store (Subtract k) tells of_store = tt
