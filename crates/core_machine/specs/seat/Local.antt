-- The calls that look at no word: one load of the phase, at which their reply stands.
use Rattle.std.specs.Prelude.{ℕ, Bool, if◌then◌else◌, List, slice_set}
use Rattle.heap_model.specs.declared.command.Command.{Command}
use Rattle.heap_model.specs.declared.command.Command.TheVariants.{New, Array, Get, Set, Cas, Num, Nil, Copy, Same, Len, Poll, Collect, Leave}
use Rattle.heap_model.specs.declared.reply.Reply.{Reply}
use Rattle.heap_model.specs.declared.reply.Reply.TheVariants.{Done, Yes, No, NoObject}
use Rattle.core_machine.specs.declared.seat.register.Register.{Register}
use Rattle.core_machine.specs.declared.seat.register.Register.TheVariants as held
use Rattle.core_machine.specs.seat.Registers.{register_in, seen_in, value_of, is_same_value}
use Rattle.core_machine.specs.seat.Seat.{Seat, after_call}

-- the reply that says whether two values are the same
abbrev pub answer_of : Bool → Reply
answer_of same = if same then Yes else No

-- the reply of a command that looks at no word: get, set, cas and len do so where their register holds no object, and the others never
abbrev pub local_reply_of : List Register → Command → Reply
local_reply_of registers (New d fields) = NoObject
local_reply_of registers (Array d cells) = NoObject
local_reply_of registers (Get d r i) = NoObject
local_reply_of registers (Set r i v) = NoObject
local_reply_of registers (Cas r i a v) = NoObject
local_reply_of registers (Num d n) = Done
local_reply_of registers (Nil d) = Done
local_reply_of registers (Copy d r) = Done
local_reply_of registers (Same a b) = answer_of (is_same_value (value_of (register_in registers a)) (value_of (register_in registers b)))
local_reply_of registers (Len r) = NoObject
local_reply_of registers Poll = NoObject
local_reply_of registers Collect = NoObject
local_reply_of registers Leave = NoObject

-- the registers after a command that looks at no word
abbrev pub local_registers : List Register → Command → List Register
local_registers registers (New d fields) = registers
local_registers registers (Array d cells) = registers
local_registers registers (Get d r i) = registers
local_registers registers (Set r i v) = registers
local_registers registers (Cas r i a v) = registers
local_registers registers (Num d n) = slice_set registers d (held.Number n)
local_registers registers (Nil d) = slice_set registers d held.Nil
local_registers registers (Copy d r) = slice_set registers d (register_in registers r)
local_registers registers (Same a b) = registers
local_registers registers (Len r) = registers
local_registers registers Poll = registers
local_registers registers Collect = registers
local_registers registers Leave = registers

-- the stamps under which they were seen: a number and nil under none, a copy under that of what it copies
abbrev pub local_seen : List ℕ → Command → List ℕ
local_seen seen (New d fields) = seen
local_seen seen (Array d cells) = seen
local_seen seen (Get d r i) = seen
local_seen seen (Set r i v) = seen
local_seen seen (Cas r i a v) = seen
local_seen seen (Num d n) = slice_set seen d 0
local_seen seen (Nil d) = slice_set seen d 0
local_seen seen (Copy d r) = slice_set seen d (seen_in seen r)
local_seen seen (Same a b) = seen
local_seen seen (Len r) = seen
local_seen seen Poll = seen
local_seen seen Collect = seen
local_seen seen Leave = seen

-- the seat once that reply was told
abbrev pub after_local : Seat → Seat
after_local seat = after_call (record seat { registers = local_registers seat.registers seat.command; seen = local_seen seat.seen seat.command })
