-- Words beside the spine space.
use Rattle.core_rule.proofs.Terms.{Heap, Spine, InTable, HasWord}
use Rattle.core_machine.specs.declared.table.address.Address.{Address}
use Rattle.core_machine.specs.declared.table.address.Address.TheVariants.{Spot}

-- the word is neither one of a spine nor tells the next spine's place
abbrev pub IsBesideSpines : Address → Type 0
IsBesideSpines Spot = ⊥
IsBesideSpines (Spine half offset) = ⊥
IsBesideSpines _ = Unit {0}

-- so the table has it
pub word_beside_is_there : (heap : Heap) (a : Address) → IsBesideSpines a → InTable heap a → HasWord heap a
word_beside_is_there heap (Spine half offset) beside there = absurd beside
word_beside_is_there heap _ beside there = there
