use Rattle.std.proofs.Common.{◌≡◌}
use Rattle.heap_table.specs.Known.{opening_known}
use Rattle.heap_table.specs.Opened.{EachOpens}
use Rattle.heap_table.proofs.OpeningHolders.{AreOpened}
use Rattle.heap_table.proofs.opening.HeapTable.make.Given as goal

abbrev pub invariant-loop-number : goal.invariant-loop-number
invariant-loop-number g l = (l.collector.heap ≡ l.fn.heap) × (l.collector.known ≡ record (opening_known l.fn.heap) { handed = l.number }) × (l.collector.turns ≡ 0) × EachOpens l.fn.heap
    × AreOpened l.collector.table l.fn.heap l.number l.holders.items
