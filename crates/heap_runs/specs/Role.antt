-- What stays true of the collector while the parties of a run share its turns, and what each of them does to it.
use Rattle.std.specs.Prelude.{◌≡◌, ℕ, ◌<◌, ◌≤◌, true, List, [], length, take, drop}
use Rattle.std.specs.List.{list_all}
use Rattle.atomic_table.specs.Seated.{TableId}
use Rattle.heap_model.specs.account.Turned.{is_of_heap}
use Rattle.heap_model.specs.calls.CollectorCalls.{Turns}
use Rattle.heap_model.specs.declared.calls.collector_calls.Turn.{Turn}
use Rattle.heap_model.specs.declared.entry.Entry.{Entry}
use Rattle.heap_model.specs.declared.heap.Heap.{Heap}
use Rattle.collector_turns.specs.Collector.{CollectorValue, state_of}
use Rattle.collector_turns.specs.Turning.{TakesTurn, MakesRoom}
use Rattle.slack_pace.specs.Slack.{MakesEach, last_made, HasWaited}

-- the table of no heap
abbrev pub no_table : TableId
no_table = record { words = 0; slots = 0; views_name = 0; atom = 0; block = 0; offset = 0; slot_names = [] }

-- the second list begins with the first
abbrev pub BeginsWith : List Entry → List Entry → Type 0
BeginsWith before log = take (length before) log ≡ before

-- the collector is of this table and heap, and its entries begin with these; no later one answers a command of the collector
pub record IsOfRun (table : TableId) (heap : Heap) (before : List Entry) (collector : CollectorValue) : Type 0 where
  pub table_is : collector.holder.table ≡ table
  pub heap_is : collector.holder.heap ≡ heap
  pub goes_on : BeginsWith before collector.holder.known.collector.log
  pub own : list_all is_of_heap (drop (length before) collector.holder.known.collector.log) ≡ true

-- once there was room the collector made this one turn
pub record MakesOneTurn (old new : CollectorValue) (turn : Turn) : Type 0 where
  pub ready : CollectorValue
  pub room : MakesRoom old ready
  pub takes : TakesTurn ready new turn
  pub turned : Turns (state_of ready) (state_of new) turn

-- once there was room the collector made not more turns than these, one after another, and fewer only where the last waits
pub record MakesSlack (asked : ℕ) (old new : CollectorValue) : Type 0 where
  pub ready : CollectorValue
  pub room : MakesRoom old ready
  pub made : ℕ
  pub most : made ≤ asked
  pub turns : MakesEach TakesTurn made ready new
  pub fewer : made < asked → HasWaited (last_made made (state_of new))
