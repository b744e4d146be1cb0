-- How a seat goes on while it reads or writes an object: the way to the field, and what is done with it.
use Rattle.std.specs.Prelude.{ℕ, ◌+◌, ◌-◌, ◌/◌, ◌%◌, ◌==◌, nat_lt, nat_le, Bool, false, if◌then◌else◌, Option, Some, None}
use Rattle.heap_words.specs.Spot.{spot_in}
use Rattle.heap_model.specs.declared.command.Command.{Command}
use Rattle.heap_model.specs.declared.command.Command.TheVariants as commands
use Rattle.heap_model.specs.declared.id.Id.{Id}
use Rattle.heap_model.specs.declared.reply.Reply.{Reply}
use Rattle.heap_model.specs.declared.reply.Reply.TheVariants.{Length, NoField}
use Rattle.heap_model.specs.PhasePlan.{cycle_phases, barriers, clearing}
use Rattle.core_machine.specs.declared.point.Point.TheVariants as points
use Rattle.core_machine.specs.declared.point.Access.{Access}
use Rattle.core_machine.specs.declared.point.Access.TheVariants.{LoadingMeta, Walking, LoadingSpot, Indexing, Getting, Naming, LoadingOld, ShadingOld, ShadingNew, Swapping, ShadingSide, Replacing}
use Rattle.core_machine.specs.declared.point.Side.{Side}
use Rattle.core_machine.specs.declared.point.Side.TheVariants.{Expected, New}
use Rattle.core_machine.specs.declared.seat.register.Register.{Register}
use Rattle.core_machine.specs.declared.seat.register.Register.TheVariants.{Nil, Number, Object}
use Rattle.core_machine.specs.seat.Commands.{target_of, source_of, expected_of, field_of}
use Rattle.heap_words.specs.Loaded.{link_of, stamp_of, length_of, array_length_of, payload_in}
use Rattle.core_machine.specs.table.Decode.{plain_of}
use Rattle.core_machine.specs.seat.Registers.{register_in, register_head}
use Rattle.core_machine.specs.seat.Seat.{Seat, with_held, after_call}

-- the row in which a record's field stands: 0 is the object's first fragment, 1 its second
abbrev pub row_of : ℕ → ℕ
row_of field = (field + 1) / 3

-- the word of its fragment in which a record's field stands: 3 * row + part is the field's number plus 2
abbrev pub part_of : ℕ → ℕ
part_of field = (field + 1) % 3 + 1

-- the barrier is on from the answer to a cycle's phase of barriers on, until that to its clearing
abbrev pub has_barrier_of : Seat → Bool
has_barrier_of seat =
    if nat_le barriers (seat.answered % cycle_phases) then nat_lt (seat.answered % cycle_phases) clearing else false

-- the seat at this point of access
abbrev pub at_access : Seat → Access → Seat
at_access seat point = record seat { point = points.Access point }

-- the command's register has another value, seen under this stamp, and the call is over
abbrev pub with_register_filled : Seat → Register → ℕ → Seat
with_register_filled seat register stamp = after_call (with_held seat (target_of seat.command) register stamp)

-- the way begins at the object's first fragment; without an object the reply is told at once
abbrev pub access_start : Seat → Register → Seat
access_start seat (Object head id) =
    at_access (record seat { reached = head }) LoadingMeta
access_start seat Nil = record seat { point = points.Local }
access_start seat (Number n) = record seat { point = points.Local }

-- the number of the register with this value of a compare and swap
abbrev pub side_of : Side → Command → ℕ
side_of Expected command = expected_of command
side_of New command = source_of command

-- the register with this value
abbrev pub side_register_of : Seat → Side → Register
side_register_of seat side = register_in seat.registers (side_of side seat.command)

-- a compare and swap shades the value that it puts into the field, where that is an object; then it compares
abbrev pub offer_point_of : Option ℕ → Access
offer_point_of None = Replacing
offer_point_of (Some head) = ShadingSide New

-- but first it shades the value that it expects there, where that is an object
abbrev pub expect_point_of : Option ℕ → Option ℕ → Access
expect_point_of None new = offer_point_of new
expect_point_of (Some head) new = ShadingSide Expected

-- where a compare and swap with the barrier on goes from its field
abbrev pub guard_point_of : Seat → Access
guard_point_of seat = expect_point_of (register_head (side_register_of seat Expected)) (register_head (side_register_of seat New))

-- what is done at the field: a get loads it; where the barrier is on a set loads it and a compare and swap shades, and else they swap; no other command comes there
abbrev pub field_point_of : Seat → Command → Access
field_point_of seat (commands.New d fields) = Getting
field_point_of seat (commands.Array d cells) = Getting
field_point_of seat (commands.Get d r i) = Getting
field_point_of seat (commands.Set r i v) = if has_barrier_of seat then LoadingOld else Swapping
field_point_of seat (commands.Cas r i a v) = if has_barrier_of seat then guard_point_of seat else Replacing
field_point_of seat (commands.Num d n) = Getting
field_point_of seat (commands.Nil d) = Getting
field_point_of seat (commands.Copy d r) = Getting
field_point_of seat (commands.Same a b) = Getting
field_point_of seat (commands.Len r) = Getting
field_point_of seat commands.Poll = Getting
field_point_of seat commands.Collect = Getting
field_point_of seat commands.Leave = Getting

-- where the seat stands on its way: at the field, where no link leads on, and else at a link
abbrev pub way_point_of : Seat → Access
way_point_of seat = if seat.links == 0 then field_point_of seat seat.command else Walking

-- the link that was found leads to the next fragment of the way
abbrev pub after_link : Seat → ℕ → Seat
after_link seat found = record seat { reached = link_of found; links = seat.links - 1 }

-- a fragment's first word was found: the way goes on by it, unless the field stands in this fragment
abbrev pub after_walk : Seat → ℕ → Seat
after_walk seat found =
    if seat.links == 0 then at_access seat (way_point_of seat) else at_access (after_link seat found) (way_point_of (after_link seat found))

-- the reply at the meta of a command on this field, where there is no such field
abbrev pub field_reply_of : ℕ → ℕ → Option Reply
field_reply_of field found = if nat_lt field (length_of found) then None else Some NoField

-- the reply at the meta, where the call ends there: the length, or that there is no such field; no other command comes there
abbrev pub meta_reply_of : Command → ℕ → Option Reply
meta_reply_of (commands.New d fields) found = None
meta_reply_of (commands.Array d cells) found = None
meta_reply_of (commands.Get d r i) found = field_reply_of i found
meta_reply_of (commands.Set r i v) found = field_reply_of i found
meta_reply_of (commands.Cas r i a v) found = field_reply_of i found
meta_reply_of (commands.Num d n) found = None
meta_reply_of (commands.Nil d) found = None
meta_reply_of (commands.Copy d r) found = None
meta_reply_of (commands.Same a b) found = None
meta_reply_of (commands.Len r) found = Some (Length (length_of found))
meta_reply_of commands.Poll found = None
meta_reply_of commands.Collect found = None
meta_reply_of commands.Leave found = None

-- where the field stands: so many links lead to its fragment, and it is this word of it
abbrev pub with_field_place : Seat → Seat
with_field_place seat = record seat { links = row_of (field_of seat.command); part = part_of (field_of seat.command) }

-- a cell of an array stands in this word of the fragment that a spine word names, to which no link leads
abbrev pub with_cell_place : Seat → Seat
with_cell_place seat = record seat { links = 0; part = field_of seat.command % 4 }

-- the way from a record's meta goes by its links, and from an array's by its spine
abbrev pub after_length : Seat → ℕ → Option ℕ → Seat
after_length seat found None = after_walk (with_field_place seat) found
after_length seat found (Some cells) = at_access (with_cell_place seat) LoadingSpot

-- the meta was found: it tells where the field stands
abbrev pub after_meta : Seat → ℕ → Option Reply → Seat
after_meta seat found None = after_length seat found (array_length_of found)
after_meta seat found (Some reply) = after_call seat

-- the place of the spine was found
abbrev pub after_address : Seat → ℕ → Seat
after_address seat found = at_access (record seat { address = spot_in found }) Indexing

-- the seat has reached the fragment that this spine word names
abbrev pub at_payload : Seat → ℕ → Seat
at_payload seat found = record seat { reached = payload_in found }

-- the spine word was found that names the cell's fragment: the field is reached
abbrev pub after_index : Seat → ℕ → Seat
after_index seat found = at_access (at_payload seat found) (field_point_of (at_payload seat found) seat.command)

-- a get's field was found: a number or nil stands in the register, a reference waits for its object's name
abbrev pub after_get : Seat → ℕ → Option ℕ → Seat
after_get seat found None = with_register_filled seat (plain_of found) (stamp_of found)
after_get seat found (Some head) = at_access (record seat { loaded = found }) Naming

-- the name was found
abbrev pub after_name : Seat → ℕ → Id → Seat
after_name seat head id = with_register_filled seat (Object head id) (stamp_of seat.loaded)

-- the new value is shaded where it is an object; then comes the swap
abbrev pub new_point_of : Option ℕ → Access
new_point_of None = Swapping
new_point_of (Some head) = ShadingNew

-- the old value is dealt with
abbrev pub after_old : Seat → Seat
after_old seat = at_access seat (new_point_of (register_head (register_in seat.registers (source_of seat.command))))

-- a set's old value was found: a reference is shaded
abbrev pub after_old_load : Seat → Option ℕ → Seat
after_old_load seat None = after_old seat
after_old_load seat (Some head) = at_access seat ShadingOld

-- the field has its new word
abbrev pub after_swap : Seat → Seat
after_swap seat = after_call (record seat { sets = seat.sets + 1 })

-- a value of a compare and swap was shaded
abbrev pub after_side : Seat → Side → Seat
after_side seat Expected = at_access seat (offer_point_of (register_head (side_register_of seat New)))
after_side seat New = at_access seat Replacing

-- the field has its new word, where it had the expected one
abbrev pub after_replace : Seat → Bool → Seat
after_replace seat expected = if expected then after_swap seat else after_call seat
