-- How a seat goes on while it answers the phase, and while it leaves.
use Rattle.std.specs.Prelude.{ℕ, ◌+◌, ◌%◌, ◌==◌, nat_lt, true, if◌then◌else◌, List, [], ◌∷◌, length, replicate}
use Rattle.heap_model.specs.Limits.{register_count}
use Rattle.heap_model.specs.declared.command.Command.{Command}
use Rattle.heap_model.specs.declared.command.Command.TheVariants.{Collect}
use Rattle.heap_model.specs.PhasePlan.{cycle_phases, marking}
use Rattle.core_machine.specs.declared.point.Point.TheVariants as points
use Rattle.core_machine.specs.declared.point.Polling.{Polling}
use Rattle.core_machine.specs.declared.point.Polling.TheVariants as polling
use Rattle.core_machine.specs.declared.point.Leaving.{Leaving}
use Rattle.core_machine.specs.declared.point.Leaving.TheVariants as leaving
use Rattle.core_machine.specs.declared.seat.register.Register.TheVariants.{Nil}
use Rattle.core_machine.specs.seat.Registers.{heads_of}
use Rattle.core_machine.specs.seat.Seat.{Seat, call_over, after_call}

-- what a seat shades before it answers the phase: where marking begins the objects that its registers hold
abbrev pub roots : Seat → List ℕ
roots seat = if seat.asked % cycle_phases == marking then heads_of seat.registers else []

-- the next root is shaded, or where none is left the answer is stored
abbrev pub answer_point : Seat → Polling
answer_point seat = if nat_lt seat.shaded (length (roots seat)) then polling.Shading else polling.Answering

-- the seat at its next shade, or at its answer
abbrev pub answer_next : Seat → Seat
answer_next seat = record seat { point = points.Polling (answer_point seat) }

-- a call that answers the phase is over: a poll with its reply, and the answer of a collect without one
abbrev pub polling_over : Command → Seat → Seat
polling_over Collect seat = call_over seat
polling_over command seat = after_call seat

-- the phase was found: it is answered where it wasn't yet
abbrev pub after_phase_load : Seat → ℕ → Seat
after_phase_load seat found = if found == seat.answered then polling_over seat.command seat else answer_next (record seat { asked = found })

-- one more root was shaded
abbrev pub after_root_shade : Seat → Seat
after_root_shade seat = answer_next (record seat { shaded = seat.shaded + 1 })

-- the answer was stored
abbrev pub after_answer : Seat → Seat
after_answer seat = polling_over seat.command (record seat { answered = seat.asked })

-- a reserve is given back before the seat leaves
abbrev pub leave_point : List ℕ → Leaving
leave_point [] = leaving.Parting
leave_point (fragment ∷ more) = leaving.Emptying

-- the reserve was given back
abbrev pub after_emptying : Seat → Seat
after_emptying seat = record seat { reserve = []; point = points.Leaving leaving.Parting }

-- the seat has left
abbrev pub after_leave : Seat → Seat
after_leave seat = after_call (record seat { registers = replicate register_count Nil; seen = replicate register_count 0; left = true })
