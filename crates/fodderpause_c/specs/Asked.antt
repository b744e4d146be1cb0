-- What C asks of a seat.
use Rattle.heap_model.specs.declared.command.Command.{Command}
use Rattle.heap_model.specs.declared.command.Command.TheVariants as commands
use Rattle.fodderpause_c.specs.declared.asked.Asked.{Asked}
use Rattle.fodderpause_c.specs.declared.asked.Asked.TheVariants as asked

-- the command with these numbers, though they may be too large
abbrev pub asked_command : Asked → Command
asked_command (asked.New d fields) = commands.New d fields
asked_command (asked.Array d cells) = commands.Array d cells
asked_command (asked.Get d r i) = commands.Get d r i
asked_command (asked.Set r i v) = commands.Set r i v
asked_command (asked.Cas r i a v) = commands.Cas r i a v
asked_command (asked.Num d n) = commands.Num d n
asked_command (asked.Nil d) = commands.Nil d
asked_command (asked.Copy d r) = commands.Copy d r
asked_command (asked.Same a b) = commands.Same a b
asked_command (asked.Len r) = commands.Len r
asked_command asked.Poll = commands.Poll
asked_command asked.Leave = commands.Leave
