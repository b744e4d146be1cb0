-- How a seat goes on in the inner calls of a collect.
use Rattle.std.specs.Prelude.{ℕ, ◌<◌, [], ◌∷◌}
use Rattle.heap_model.specs.declared.calls.collect.CollectReply.{CollectReply}
use Rattle.heap_model.specs.declared.calls.collect.Inner.{Inner}
use Rattle.heap_model.specs.declared.calls.collect.Inner.TheVariants as inners
use Rattle.heap_model.specs.declared.entry.Entry.TheVariants.{Said}
use Rattle.heap_model.specs.declared.heap.Heap.{Heap}
use Rattle.core_machine.specs.declared.point.Collecting.{Collecting}
use Rattle.core_machine.specs.declared.point.Collecting.TheVariants.{Looking, Asking, Comparing, Noting}
use Rattle.core_machine.specs.declared.point.Point.{Point}
use Rattle.core_machine.specs.declared.point.Point.TheVariants as points
use Rattle.core_machine.specs.declared.point.Polling.TheVariants as polling
use Rattle.core_machine.specs.declared.step.Step.TheVariants as steps
use Rattle.core_machine.specs.declared.step.TurningStep.TheVariants as turning
use Rattle.core_machine.specs.seat.Looks.{MayNote, looked, seen_phase, compared, noted_reply}
use Rattle.core_machine.specs.seat.Seat.{Seat, with_seen, call_over, after_call}
use Rattle.core_machine.specs.Move.{Move, plain_move}

-- where an inner call begins
abbrev pub inner_point : Inner → Point
inner_point inners.Look = points.Collecting Looking
inner_point inners.Answer = points.Polling polling.Asking
inner_point (inners.Behind other) = points.Collecting (Asking other)
inner_point (inners.Note reply) = points.Collecting (Noting reply)

-- the phase was looked at
abbrev pub after_look : Seat → ℕ → Seat
after_look seat found = call_over (record seat { looks = looked found seat.looks })

-- the phase was loaded, and the answer of the other seat comes next
abbrev pub after_asking : Seat → ℕ → ℕ → Seat
after_asking seat other found = record seat { point = points.Collecting (Comparing other found); looks = seen_phase found seat.looks }

-- the other seat's word was found
abbrev pub after_comparing : Seat → ℕ → ℕ → ℕ → Seat
after_comparing seat other phase found = call_over (record seat { looks = compared other phase found seat.looks })

-- the phase is loaded to look at it
abbrev pub look_move : Seat → Move
look_move seat = plain_move steps.PollLoad (after_look seat) (λ found. [])

-- the phase is loaded, with which the answer of the other seat is to be compared
abbrev pub asking_move : Seat → ℕ → Move
asking_move seat other = plain_move steps.PollLoad (after_asking seat other) (λ found. [])

-- the other seat's word is loaded
abbrev pub comparing_move : Seat → ℕ → ℕ → Move
comparing_move seat other phase = plain_move (steps.Turning (turning.LookLoad other)) (after_comparing seat other phase) (λ found. [])

-- the reply is told, at a load of the phase
abbrev pub note_move : ℕ → Seat → CollectReply → Move
note_move number seat reply =
    plain_move steps.PollLoad (λ found. after_call (with_seen found seat)) (λ found. Said number seat.command (noted_reply reply) ∷ [])

-- the move at each point of an inner call
abbrev pub collecting_move : ℕ → Seat → Collecting → Move
collecting_move number seat Looking = look_move seat
collecting_move number seat (Asking other) = asking_move seat other
collecting_move number seat (Comparing other phase) = comparing_move seat other phase
collecting_move number seat (Noting reply) = note_move number seat reply

-- what is true of the seat's data at each of these points
abbrev pub FitsCollecting : Heap → Seat → Collecting → Type 0
FitsCollecting heap seat Looking = Unit {0}
FitsCollecting heap seat (Asking other) = other < heap.seats
FitsCollecting heap seat (Comparing other phase) = other < heap.seats
FitsCollecting heap seat (Noting reply) = MayNote seat.looks reply
