-- What the whole log of a seat tells that has served its script and left.
use Rattle.std.specs.Prelude.{◌≡◌, ℕ, List, [], ◌++◌}
use Rattle.heap_model.specs.calls.SeatCalls.{leave_entries}
use Rattle.heap_model.specs.declared.entry.Entry.{Entry}
use Rattle.heap_queue.specs.declared.queue_command.QueueCommand.{QueueCommand}
use Rattle.heap_queue.specs.Calls.{Call}
use Rattle.heap_queue.specs.Effects.{start}
use Rattle.heap_queue.specs.Histories.{Leads}
use Rattle.heap_queue.specs.Places.{Rests, Gone}
use Rattle.heap_queue.specs.Serving.{ServesEach, first_calls, HasFound}

-- the seat has made or found the queue, served its script by these calls, and left by the entries of a leave: no more stands in its log
pub record HasServed (number : ℕ) (script : List QueueCommand) (log : List Entry) : Type 0 where
  pub opening : List Entry
  pub found : HasFound number opening
  pub calls : List Call
  pub serving : List Entry
  pub served : ServesEach number script calls serving
  pub leaving : List Entry
  pub unborn : ℕ
  pub leaves : leaving ≡ leave_entries number unborn
  pub left : Leads Rests leaving Gone []
  pub log_is : log ≡ opening ++ serving ++ leaving
  pub leads : Leads (start 0 number) log Gone (first_calls number ++ calls)
