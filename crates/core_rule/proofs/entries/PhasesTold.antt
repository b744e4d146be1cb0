-- What a call that answers the phase tells of it, and what it leaves: by its command.
use Rattle.std.specs.Prelude.{if◌then◌else◌}
use Rattle.std.proofs.Common.{◌≡◌, ℕ, ◌⊎◌, Bool, true, false, List, [], ◌∷◌, inl, inr, refl}
use Rattle.core_rule.proofs.Terms.{Command, Entry, Said, Seat, call_over, after_call}
use Rattle.heap_model.specs.declared.command.Command.TheVariants as commands
use Rattle.heap_model.specs.declared.reply.Reply.TheVariants as replies
use Rattle.core_machine.specs.seat.FitsHandshake.{AnswersThePhase}
use Rattle.core_machine.specs.seat.Handshake.{polling_over}
use Rattle.core_machine.specs.seat.HandshakeMoves.{phase_told}

-- the phase is told, or nothing is
pub told_cases : (P : List Entry → Type 0) (number : ℕ) (command : Command) (p : ℕ) → P [] → P (Said number command (replies.Phase p) ∷ []) → P (phase_told number command p)
told_cases P number commands.Collect p none told = none
told_cases P number _ p none told = told

-- nothing of the call is left, with a reply or without one
pub over_cases : (P : Seat → Type 0) (command : Command) (seat : Seat) → P (call_over seat) → P (after_call seat) → P (polling_over command seat)
over_cases P commands.Collect seat ends replies = ends
over_cases P _ seat ends replies = replies

-- where the seat has answered the phase it is told
pub told_if_cases : (P : List Entry → Type 0) (number : ℕ) (command : Command) (p : ℕ) (b : Bool) → P [] → P (Said number command (replies.Phase p) ∷ []) → P (if b then phase_told number command p else [])
told_if_cases P number command p true none told = told_cases P number command p none told
told_if_cases P number command p false none told = none

-- the command is a poll or a collect
pub command_polls_or_collects : (command : Command) → AnswersThePhase command → (command ≡ commands.Poll) ⊎ (command ≡ commands.Collect)
command_polls_or_collects commands.Poll answers = inl refl
command_polls_or_collects commands.Collect answers = inr refl
command_polls_or_collects _ answers = absurd answers
