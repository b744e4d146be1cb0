-- The moves of the calls that look at the phase alone, and of those that answer it or leave.
use Rattle.std.specs.Prelude.{ℕ, ◌==◌, if◌then◌else◌, List, [], ◌∷◌, length, slice_index_or}
use Rattle.heap_model.specs.declared.command.Command.{Command}
use Rattle.heap_model.specs.declared.command.Command.TheVariants.{Collect}
use Rattle.heap_model.specs.declared.entry.Entry.{Entry}
use Rattle.heap_model.specs.declared.entry.Entry.TheVariants.{Said, GivesBack, Answers}
use Rattle.heap_model.specs.declared.reply.Reply.TheVariants.{Phase, Done}
use Rattle.core_machine.specs.declared.point.Polling.{Polling}
use Rattle.core_machine.specs.declared.point.Polling.TheVariants as polling
use Rattle.core_machine.specs.declared.point.Leaving.{Leaving}
use Rattle.core_machine.specs.declared.point.Leaving.TheVariants as leaving
use Rattle.core_machine.specs.declared.step.Step.TheVariants as steps
use Rattle.core_machine.specs.declared.step.MakingStep.TheVariants.{GiveBack}
use Rattle.core_machine.specs.declared.step.AccessStep.TheVariants.{Shade}
use Rattle.core_machine.specs.declared.step.HandshakeStep.TheVariants.{AnswerStore, LeaveStore}
use Rattle.core_machine.specs.table.Fragments.{mask_of}
use Rattle.core_machine.specs.seat.Handshake.{roots, after_phase_load, after_root_shade, after_answer, after_emptying, after_leave}
use Rattle.core_machine.specs.seat.Seat.{Seat, with_seen}
use Rattle.core_machine.specs.seat.Local.{local_reply_of, after_local}
use Rattle.core_machine.specs.Move.{Move, plain_move}

-- the reply of a command that looks at no word, told at a load of the phase
abbrev pub local_move : ℕ → Seat → Move
local_move number seat =
    plain_move steps.PollLoad (λ found. after_local (with_seen found seat)) (λ found. Said number seat.command (local_reply_of seat.registers seat.command) ∷ [])

-- a poll tells the phase, which the answer of a collect doesn't
abbrev pub phase_told : ℕ → Command → ℕ → List Entry
phase_told number Collect phase = []
phase_told number command phase = Said number command (Phase phase) ∷ []

-- what is told of the phase where the seat has answered it
abbrev pub poll_adds : ℕ → Seat → ℕ → List Entry
poll_adds number seat found = if found == seat.answered then phase_told number seat.command found else []

-- a poll loads the phase
abbrev pub poll_move : ℕ → Seat → Move
poll_move number seat = plain_move steps.PollLoad (λ found. after_phase_load (with_seen found seat) found) (poll_adds number seat)

-- the next root is shaded
abbrev pub root_move : Seat → Move
root_move seat =
    plain_move (steps.Access (Shade (slice_index_or (roots seat) seat.shaded 0))) (λ found. after_root_shade seat) (λ found. [])

-- the answer is stored
abbrev pub answer_move : ℕ → Seat → Move
answer_move number seat =
    plain_move (steps.Handshake (AnswerStore number seat.asked)) (λ found. after_answer seat)
    (λ found. Answers number seat.asked ∷ phase_told number seat.command seat.asked)

-- the move at each point of a poll, and of the answer of a collect
abbrev pub polling_move : ℕ → Seat → Polling → Move
polling_move number seat polling.Asking = poll_move number seat
polling_move number seat polling.Shading = root_move seat
polling_move number seat polling.Answering = answer_move number seat

-- the reserve is given back
abbrev pub empty_move : ℕ → Seat → Move
empty_move number seat =
    plain_move (steps.Making (GiveBack seat.cursor (mask_of seat.reserve))) (λ found. after_emptying seat)
    (λ found. GivesBack number (length seat.reserve) ∷ [])

-- the seat's word tells that it has left
abbrev pub leave_move : ℕ → Seat → Move
leave_move number seat =
    plain_move (steps.Handshake (LeaveStore number)) (λ found. after_leave seat) (λ found. Said number seat.command Done ∷ [])

-- the move at each point of a leave
abbrev pub leaving_move : ℕ → Seat → Leaving → Move
leaving_move number seat leaving.Emptying = empty_move number seat
leaving_move number seat leaving.Parting = leave_move number seat
