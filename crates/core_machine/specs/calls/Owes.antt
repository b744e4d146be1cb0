-- How many steps and entries a call in flight has still to make, by its point.
use Rattle.std.specs.Prelude.{ℕ, ◌+◌, ◌-◌, ◌*◌, ◌<◌, ◌≤◌, length}
use Rattle.heap_model.specs.declared.heap.Heap.{Heap}
use Rattle.core_machine.specs.declared.point.Point.{Point}
use Rattle.core_machine.specs.declared.point.Point.TheVariants as points
use Rattle.core_machine.specs.declared.point.Making.{Making}
use Rattle.core_machine.specs.declared.point.Access.{Access}
use Rattle.core_machine.specs.declared.point.Access.TheVariants.{LoadingMeta, Walking, LoadingSpot, Indexing, Getting, Naming, LoadingOld, ShadingOld, ShadingNew, Swapping, ShadingSide, Replacing}
use Rattle.core_machine.specs.declared.point.Side.TheVariants.{Expected, New}
use Rattle.core_machine.specs.declared.point.Polling.{Polling}
use Rattle.core_machine.specs.declared.point.Polling.TheVariants.{Asking, Shading, Answering}
use Rattle.core_machine.specs.declared.point.Collecting.{Collecting}
use Rattle.core_machine.specs.declared.point.Collecting.TheVariants.{Looking, Asking as AskingBehind, Comparing, Noting}
use Rattle.core_machine.specs.declared.point.Leaving.TheVariants as leaving
use Rattle.core_machine.specs.seat.Access.{row_of}
use Rattle.core_machine.specs.seat.Commands.{field_of}
use Rattle.core_machine.specs.seat.Handshake.{roots}
use Rattle.core_machine.specs.declared.point.Making.TheVariants.{Granting, Withdrawing, Gathering, GivingBack, Refusing, Placing, Listing, Storing, Bearing}
use Rattle.core_machine.specs.seat.Seat.{Seat, need, spine_need}
use Rattle.core_machine.specs.seat.Making.{fragments_gathered}

-- the most entries that the making of an object adds from its point on
abbrev pub owes_making : Seat → Making → ℕ
owes_making seat Granting = 2 * need seat
owes_making seat Withdrawing = 1
owes_making seat Gathering = 2 * need seat - length (fragments_gathered seat)
owes_making seat GivingBack = length seat.hand + 1
owes_making seat Refusing = 1
owes_making seat Placing = 1
owes_making seat Listing = 1
owes_making seat Storing = 1
owes_making seat Bearing = 1

-- the most entries that a call adds from its point on
abbrev pub owes_at : Seat → Point → ℕ
owes_at seat points.Idle = 0
owes_at seat (points.Making point) = owes_making seat point
owes_at seat points.Local = 1
owes_at seat (points.Access point) = 1
owes_at seat (points.Polling point) = 2
owes_at seat (points.Collecting point) = 1
owes_at seat (points.Leaving leaving.Emptying) = 2
owes_at seat (points.Leaving leaving.Parting) = 1

-- the most entries that the seat's call still adds
abbrev pub owes : Seat → ℕ
owes seat = owes_at seat seat.point

-- the most steps that the making of an object takes from its point on
abbrev pub making_steps : Heap → Seat → Making → ℕ
making_steps heap seat Granting = heap.groups + 5 * need seat + spine_need seat + 2
making_steps heap seat Withdrawing = 1
making_steps heap seat Gathering = (heap.groups - seat.tried) + 5 * need seat + spine_need seat + 1
making_steps heap seat GivingBack = length seat.hand + 1
making_steps heap seat Refusing = 1
making_steps heap seat Placing = 5 * length seat.body + spine_need seat + 1
making_steps heap seat Listing = 5 * length seat.body + (spine_need seat - seat.listed)
making_steps heap seat Storing = (4 * length seat.body - seat.stored) + length seat.hand
making_steps heap seat Bearing = length seat.hand

-- and the reading or writing of a field, whose row comes after so many others
abbrev pub access_steps : ℕ → ℕ → Access → ℕ
access_steps rows links LoadingMeta = rows + 7
access_steps rows links Walking = links + 4
access_steps rows links LoadingSpot = 6
access_steps rows links Indexing = 5
access_steps rows links Getting = 2
access_steps rows links Naming = 1
access_steps rows links LoadingOld = 4
access_steps rows links ShadingOld = 3
access_steps rows links ShadingNew = 2
access_steps rows links Swapping = 1
access_steps rows links (ShadingSide Expected) = 3
access_steps rows links (ShadingSide New) = 2
access_steps rows links Replacing = 1

-- and a poll
abbrev pub polling_steps : Seat → Polling → ℕ
polling_steps seat Asking = length seat.registers + 2
polling_steps seat Shading = (length (roots seat) - seat.shaded) + 1
polling_steps seat Answering = 1

-- and the other inner calls of a collect
abbrev pub collecting_steps : Collecting → ℕ
collecting_steps Looking = 1
collecting_steps (AskingBehind other) = 2
collecting_steps (Comparing other phase) = 1
collecting_steps (Noting reply) = 1

-- the most steps that a call makes from its point on
abbrev pub steps_at : Heap → Seat → Point → ℕ
steps_at heap seat points.Idle = 0
steps_at heap seat (points.Making point) = making_steps heap seat point
steps_at heap seat points.Local = 1
steps_at heap seat (points.Access point) = access_steps (row_of (field_of seat.command)) seat.links point
steps_at heap seat (points.Polling point) = polling_steps seat point
steps_at heap seat (points.Collecting point) = collecting_steps point
steps_at heap seat (points.Leaving leaving.Emptying) = 2
steps_at heap seat (points.Leaving leaving.Parting) = 1

-- the most steps that the seat's call still makes
abbrev pub steps_left : Heap → Seat → ℕ
steps_left heap seat = steps_at heap seat seat.point

-- fewer steps are left, and no more entries than the move leaves room for
pub record Nears (heap : Heap) (seat : Seat) (owed steps : ℕ) (added : ℕ) : Type 0 where
  pub fewer : steps_left heap seat < steps
  pub paid : owes seat + added ≤ owed
