-- What a command names.
use Rattle.std.specs.Prelude.{ℕ}
use Rattle.heap_model.specs.declared.command.Command.{Command}
use Rattle.heap_model.specs.declared.command.Command.TheVariants.{New, Array, Get, Set, Cas, Num, Nil, Copy, Same, Len, Poll, Collect, Leave}
use Rattle.core_machine.specs.declared.seat.commands.Operands.{Operands}

-- the command makes an object
abbrev pub MakesObject : Command → Type 0
MakesObject (New d fields) = Unit {0}
MakesObject (Array d cells) = Unit {0}
MakesObject _ = ⊥

-- the command makes a record
abbrev pub IsRecordCall : Command → Type 0
IsRecordCall (New d fields) = Unit {0}
IsRecordCall _ = ⊥

-- the command makes an array
abbrev pub IsArrayCall : Command → Type 0
IsArrayCall (Array d cells) = Unit {0}
IsArrayCall _ = ⊥

-- the machine serves the command: all but a collect, which is made of inner calls
abbrev pub IsServed : Command → Type 0
IsServed (New d fields) = Unit {0}
IsServed (Array d cells) = Unit {0}
IsServed (Get d r i) = Unit {0}
IsServed (Set r i v) = Unit {0}
IsServed (Cas r i a v) = Unit {0}
IsServed (Num d n) = Unit {0}
IsServed (Nil d) = Unit {0}
IsServed (Copy d r) = Unit {0}
IsServed (Same a b) = Unit {0}
IsServed (Len r) = Unit {0}
IsServed Poll = Unit {0}
IsServed Collect = ⊥
IsServed Leave = Unit {0}

-- the operands of a command that names nothing
abbrev pub no_operands : Operands
no_operands = record { target = 0; object = 0; source = 0; expected = 0; field = 0; fields = 0; cells = 0 }

-- what a command names; 0 for what it doesn't name
abbrev pub operands_of : Command → Operands
operands_of (New d fields) = record no_operands { target = d; fields = fields }
operands_of (Array d cells) = record no_operands { target = d; cells = cells }
operands_of (Get d r i) = record no_operands { target = d; object = r; field = i }
operands_of (Set r i v) = record no_operands { object = r; field = i; source = v }
operands_of (Cas r i a v) = record no_operands { object = r; field = i; expected = a; source = v }
operands_of (Num d n) = record no_operands { target = d }
operands_of (Nil d) = record no_operands { target = d }
operands_of (Copy d r) = record no_operands { target = d; source = r }
operands_of (Same a b) = no_operands
operands_of (Len r) = record no_operands { object = r }
operands_of Poll = no_operands
operands_of Collect = no_operands
operands_of Leave = no_operands

-- the register that a command's answer goes to; 0, which is never written, where it has none
abbrev pub target_of : Command → ℕ
target_of command = (operands_of command).target

-- the register with the object that a command reads or writes
abbrev pub object_of : Command → ℕ
object_of command = (operands_of command).object

-- the register whose value a command takes
abbrev pub source_of : Command → ℕ
source_of command = (operands_of command).source

-- the register whose value a command expects in its field
abbrev pub expected_of : Command → ℕ
expected_of command = (operands_of command).expected

-- the field that a command reads or writes
abbrev pub field_of : Command → ℕ
field_of command = (operands_of command).field

-- the fields of the record that a command makes
abbrev pub fields_of : Command → ℕ
fields_of command = (operands_of command).fields

-- the cells of the array that a command makes
abbrev pub cells_of : Command → ℕ
cells_of command = (operands_of command).cells
