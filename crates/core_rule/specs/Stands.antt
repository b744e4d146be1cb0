-- When a book stands for a state.
use Rattle.heap_model.specs.declared.heap.Heap.{Heap}
use Rattle.core_machine.specs.machine.Machine.{State}
use Rattle.core_rule.specs.Book.{Book}
use Rattle.core_rule.specs.footprint.Footprint.{CycleStands}
use Rattle.core_rule.specs.looks.Looks.{AllLooksStand}
use Rattle.core_rule.specs.Rule.{Rule}

-- the book meets the rule, has the footprint of the cycle that is under way, and has what the seats have found for their collects
pub record Stands (heap : Heap) (state : State) (book : Book) : Type 0 where
  pub rule : Rule heap state book
  pub cycle : CycleStands heap state book
  pub looks : AllLooksStand heap state book.history
