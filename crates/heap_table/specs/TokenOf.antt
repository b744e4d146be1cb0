-- Which table a token is of.
use Rattle.std.specs.Prelude.{◌≡◌}
use Rattle.atomic_table.specs.Seated.{TableId}
use Rattle.heap_model.specs.declared.heap.Heap.{Heap}
use Rattle.core_machine.specs.table.Layout.{table_length}

-- the token is of this table, which has the words of the heap and no slots, and whose rule is that of the heap
pub record IsTokenOf (shared : TableId) (key : Heap) (mine : TableId) (heap : Heap) : Type 0 where
  pub table : mine ≡ shared
  pub size : mine.words ≡ table_length heap
  pub slots : mine.slots ≡ 0
  pub key_is : key ≡ heap
