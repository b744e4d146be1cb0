-- A call that answers the phase is over: a poll tells it, the answer of a collect tells nothing.
use Rattle.std.proofs.Common.{◌≡◌, ◌≢◌, ℕ, List, [], ◌∷◌, refl}
use Rattle.core_machine.proofs.Terms.{Command, Entry, Said, Seat, call_over, after_call}
use Rattle.heap_model.specs.declared.command.Command.TheVariants as commands
use Rattle.heap_model.specs.declared.reply.Reply.TheVariants as replies
use Rattle.core_machine.specs.seat.Handshake.{polling_over}
use Rattle.core_machine.specs.seat.HandshakeMoves.{phase_told}

-- the two ways in which it ends
pub polling_over_cases : (P : Seat → List Entry → Type 0) (number : ℕ) (command : Command) (seat : Seat) (p : ℕ) → (command ≡ commands.Collect → P (call_over seat) [])
    → (command ≢ commands.Collect → P (after_call seat) (Said number command (replies.Phase p) ∷ [])) → P (polling_over command seat) (phase_told number command p)
polling_over_cases P number commands.Collect seat p ends tells = ends refl
polling_over_cases P number _ seat p ends tells = tells (λ e. cc)
