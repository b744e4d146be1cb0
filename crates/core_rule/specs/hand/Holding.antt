-- What a seat has in its reserve and its hand, and what it has stored into it.
use Rattle.std.specs.Prelude.{◌≡◌, ℕ, ◌+◌, ◌/◌, ◌%◌, ◌<◌, List, [], ◌∷◌}
use Rattle.heap_model.specs.declared.heap.Heap.{Heap}
use Rattle.core_machine.specs.declared.table.address.Address.TheVariants.{Word}
use Rattle.core_machine.specs.table.Fragments.{tally}
use Rattle.core_machine.specs.table.Layout.{at}
use Rattle.core_machine.specs.seat.Making.{newborn_word_of}
use Rattle.core_machine.specs.seat.Seat.{Seat}
use Rattle.core_rule.specs.owners.Owners.{Owner, holds_bit, bears_bit}
use Rattle.core_rule.specs.Book.{fragment_at}

-- all fragments of the call in flight: those of the new object, born ones among them, once they are chosen
abbrev pub fragments_in_hand : List ℕ → List ℕ → List ℕ
fragments_in_hand hand [] = hand
fragments_in_hand hand (first ∷ body) = first ∷ body

-- reserve and hand are what the seat has and hasn't borne, each once; the rest of the new object is what it has borne, each once
pub record Holding (owner : ℕ → Owner) (number : ℕ) (reserve hand body : List ℕ) : Type 0 where
  pub held : (f : ℕ) → tally f reserve + tally f hand ≡ holds_bit number (owner f)
  pub borne : (f : ℕ) → tally f (fragments_in_hand hand body) ≡ tally f hand + bears_bit number (owner f)

-- the first words of the new object's fragments are stored
abbrev pub IsStored : Heap → List ℕ → ℕ → Seat → Type 0
IsStored heap words number seat =
    (u : ℕ) → u < seat.stored → at heap words (Word (fragment_at seat.body (u / 4)) (u % 4)) ≡ newborn_word_of number seat (u / 4) (u % 4)
