-- What a run is given.
use Rattle.std.specs.Prelude.{◌≡◌, ◌≢◌, ℕ, ◌^◌, ◌<◌, List, [], length, map, slice_index_or, All, Vec}
use Rattle.std.specs.declared.alloc.Global.{Global}
use Rattle.heap_model.specs.declared.command.Command.{Command}
use Rattle.heap_model.specs.declared.command.Command.TheVariants.{Leave}
use Rattle.heap_model.specs.declared.heap.Heap.{Heap}
use Rattle.heap_model.specs.Command.{IsCommand}
use Rattle.heap_model.specs.Heap.{IsHeap}
use Rattle.heap_model.specs.Limits.{stamp_limit}
use Rattle.core_machine.specs.collector.Collector.{opening_collector}
use Rattle.core_machine.specs.machine.Machine.{State}
use Rattle.core_machine.specs.machine.Opening.{IsOpening}

-- the heap, the state in which it opens, the commands of each seat, and how often a collect finds another seat behind before it answers that it waits
pub record Given : Type 0 where
  pub heap : Heap
  pub opening : State
  pub scripts : List (List Command)
  pub patience : ℕ

-- where nothing was given
abbrev pub nothing_given : Given
nothing_given = record {
  heap = record { groups = 0; spine = 0; seats = 0; board = 0 };
  opening = record { words = []; seats = []; collector = opening_collector };
  scripts = [];
  patience = 0;
}

-- the command is one of a script: its numbers are in their ranges, and it is no leave
abbrev pub IsOfScript : Command → Type 0
IsOfScript command = IsCommand command × (command ≢ Leave)

-- so is each command, and there are fewer than the stamps of a seat
pub record IsSeatScript (commands : List Command) : Type 0 where
  pub few : length commands < stamp_limit
  pub each : All IsOfScript commands

-- the commands of the seat
abbrev pub script_of : Given → ℕ → List Command
script_of given number = slice_index_or given.scripts number []

-- the heap has just opened, and each of its seats has a script
pub record IsGiven (given : Given) : Type 0 where
  pub limits : IsHeap given.heap
  pub opens : IsOpening given.heap given.opening
  pub seated : length given.scripts ≡ given.heap.seats
  pub scripts : All IsSeatScript given.scripts

-- these are the scripts that were given, one for each seat; a byte counts the seats, and thirty-two bits the commands of each
pub record AreScripts (given : Given) (scripts : List (Vec Command Global)) : Type 0 where
  pub same : map (λ script. script.items) scripts ≡ given.scripts
  pub seated : length scripts ≡ given.heap.seats
  pub seats : given.heap.seats < 256
  pub few : All (λ script. length script.items < 2 ^ 32) scripts
