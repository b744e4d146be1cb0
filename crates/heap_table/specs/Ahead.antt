-- A call in one go: its steps are made while what is kept of the seat stays, and between them the seat stands in the view of its token alone.
use Rattle.std.specs.Prelude.{◌≡◌, ℕ, ◌%◌, ◌==◌, ◌≤◌, if◌then◌else◌, List, Option, Some, None}
use Rattle.atomic_table.specs.Table.{Me}
use Rattle.heap_model.specs.Limits.{last_index}
use Rattle.heap_model.specs.declared.command.Command.{Command}
use Rattle.heap_model.specs.declared.heap.Heap.{Heap}
use Rattle.heap_words.specs.declared.spot.Spot.{Spot}
use Rattle.core_machine.specs.declared.point.Access.{Access as AccessPoint}
use Rattle.core_machine.specs.declared.point.Access.TheVariants.{LoadingMeta, LoadingSpot, Walking}
use Rattle.core_machine.specs.machine.Machine.{after_begin}
use Rattle.core_machine.specs.seat.Access.{at_access, field_point_of, field_reply_of, meta_reply_of}
use Rattle.core_machine.specs.seat.Commands.{field_of}
use Rattle.core_machine.specs.seat.Seat.{Seat}
use Rattle.heap_table.specs.Begun.{next_seat}
use Rattle.heap_table.specs.Made.{Made, LeadsTo}
use Rattle.heap_table.specs.SeatHeld.{SeatHeld}
use Rattle.heap_table.specs.Views.{seat_known_by}
use Rattle.heap_table.specs.declared.view.View.{View}

-- the seat that the view tells
abbrev pub seat_in : Me (Unit {0}) View → Seat
seat_in me = (seat_known_by me.0).seat

-- the holder with the command in flight
abbrev pub begun : SeatHeld → Command → SeatHeld
begun held command = record held { seat = after_begin held.heap held.seat command }

-- steps have led from the one seat to the other
abbrev pub Leads : Heap → ℕ → Seat → Seat → Type 0
Leads heap number old new = (made : List Made) × LeadsTo heap number old made new

-- the seat with the command at its object's first fragment
abbrev pub at_head : Seat → Command → ℕ → Seat
at_head seat command head = at_access (record seat { command = command; reached = head }) LoadingMeta

-- the seat with the command at the meta of its array, one of whose cells it goes to
abbrev pub at_sentinel : Seat → Command → ℕ → Seat
at_sentinel seat command head = at_access (record seat { command = command; reached = head; links = 0; part = field_of command % 4 }) LoadingSpot

-- the seat with the command on its way, with so many links before it; where none is left it is at its field, which is this word of the fragment
abbrev pub on_way : Seat → Command → ℕ → ℕ → ℕ → Spot → Seat
on_way seat command fragment links part address =
    at_access (record seat { command = command; reached = fragment; links = links; part = part; address = address })
    (if links == 0 then field_point_of (record seat { command = command }) command else Walking)

-- the seat that began the command is at its field
abbrev pub IsAtField : Seat → Command → ℕ → ℕ → Seat → Type 0
IsAtField seat command fragment part now = (address : Spot) × (now ≡ on_way seat command fragment 0 part address)

-- the command works on this field of the object with this first fragment
pub record BeginsAt (heap : Heap) (seat : Seat) (command : Command) (head field : ℕ) : Type 0 where
  pub opens : after_begin heap seat command ≡ at_head seat command head
  pub field_is : field_of command ≡ field
  pub within : field ≤ last_index
  pub replies : (word : ℕ) → meta_reply_of command word ≡ field_reply_of field word

-- with the command at this point of access to the word of the fragment, for which it has loaded this
pub record StandsAt (seat : Seat) (command : Command) (fragment part loaded : ℕ) (point : AccessPoint) (now : Seat) : Type 0 where
  pub address : Spot
  pub at : now ≡ at_access (record seat { command = command; reached = fragment; links = 0; part = part; address = address; loaded = loaded }) point

-- the fragment was shaded, where there is one to shade; else the seat is as it was
abbrev pub IsShaded : Heap → ℕ → Option ℕ → Seat → Seat → Type 0
IsShaded heap number None old new = new ≡ old
IsShaded heap number (Some fragment) old new = (found : ℕ) × (new ≡ next_seat heap number old found)
