-- The history of a run tells no answer to a command of the collector.
use Rattle.std.proofs.Common.{sym, subst}
use Rattle.heap_record.proofs.HeapEntries.{AreOfHeap, history_is_of_heap}
use Rattle.locked_heap.specs.declared.ran.LockedRan.{LockedRan}
use Rattle.locked_heap.specs.Given.{Given}
use Rattle.locked_heap.specs.Ran.{IsRun}

pub run_entries_are_of_heap : (given : Given) (ran : LockedRan) → IsRun given ran → AreOfHeap ran.history.items
run_entries_are_of_heap given ran run = subst AreOfHeap (sym run.shown) (history_is_of_heap given.heap given.opening run.events)
