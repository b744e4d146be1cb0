-- Calls whose first step ends them.
use Rattle.std.proofs.Common.{◌≡◌, ℕ, ◌==◌, [], true, cond, Some, refl, ap}
use Rattle.heap_model.specs.declared.command.Command.{Command}
use Rattle.heap_model.specs.declared.command.Command.TheVariants.{Len, Poll}
use Rattle.heap_model.specs.declared.heap.Heap.{Heap}
use Rattle.heap_model.specs.declared.id.Id.{Id}
use Rattle.heap_model.specs.declared.reply.Reply.TheVariants.{Length, Phase}
use Rattle.heap_words.specs.Loaded.{length_of}
use Rattle.core_machine.specs.declared.point.Point.TheVariants.{Local, Polling}
use Rattle.core_machine.specs.declared.point.Polling.TheVariants.{Asking}
use Rattle.core_machine.specs.declared.seat.register.Register.{Register}
use Rattle.core_machine.specs.declared.seat.register.Register.TheVariants.{Nil, Number, Object}
use Rattle.core_machine.specs.declared.step.AccessStep.TheVariants.{WalkLoad}
use Rattle.core_machine.specs.declared.step.Step.TheVariants.{Access, PollLoad}
use Rattle.core_machine.specs.Moves.{due_step, local_move, seat_after}
use Rattle.core_machine.specs.machine.Machine.{after_begin}
use Rattle.core_machine.specs.seat.Access.{access_start}
use Rattle.core_machine.specs.seat.HandshakeMoves.{phase_told}
use Rattle.core_machine.specs.seat.Handshake.{answer_next, polling_over}
use Rattle.core_machine.specs.seat.Seat.{Seat, seat_after_reply, with_entries, with_seen}
use Rattle.heap_table.specs.Ahead.{at_head}
use Rattle.heap_table.specs.Begun.{next_seat}

-- a call on a register without an object looks at no word
pub opens_nothing : (seat : Seat) (register : Register) → ((head : ℕ) (id : Id) → register ≡ Object head id → ⊥) → access_start seat register ≡ record seat { point = Local }
opens_nothing seat Nil not = refl
opens_nothing seat (Number n) not = refl
opens_nothing seat (Object head id) not = absurd (not head id refl)

module _ (heap : Heap) (number : ℕ) (seat : Seat) where
  -- a call that looks at no word loads the phase
  module _ (command : Command) (opens : after_begin heap seat command ≡ record seat { command = command; point = Local }) where
    pub phase_is_due : due_step heap number (after_begin heap seat command) ≡ Some PollLoad
    phase_is_due = ap (due_step heap number) opens

    pub local_tells_nothing : (after_begin heap seat command).mine ≡ seat.mine
    local_tells_nothing = ap (λ (s : Seat). s.mine) opens

    pub local_is_over : (found : ℕ) → next_seat heap number (after_begin heap seat command) found ≡ seat_after (local_move number (record seat { command = command })) found
    local_is_over found = ap (λ (s : Seat). next_seat heap number s found) opens

  -- a len loads the meta
  module _ (r head : ℕ) (opens : after_begin heap seat (Len r) ≡ at_head seat (Len r) head) where
    pub length_is_due : due_step heap number (after_begin heap seat (Len r)) ≡ Some (Access (WalkLoad head))
    length_is_due = ap (due_step heap number) opens

    pub len_tells_nothing : (after_begin heap seat (Len r)).mine ≡ seat.mine
    len_tells_nothing = ap (λ (s : Seat). s.mine) opens

    pub len_is_over : (meta : ℕ) → next_seat heap number (after_begin heap seat (Len r)) meta ≡ seat_after_reply number (record seat { command = Len r }) (Length (length_of meta))
    len_is_over meta = ap (λ (s : Seat). next_seat heap number s meta) opens

  -- a poll that finds the phase that was answered
  pub poll_is_over : (found : ℕ) → (found == seat.answered) ≡ true → next_seat heap number (after_begin heap seat Poll) found ≡ seat_after_reply number (with_seen found (record seat { command = Poll })) (Phase found)
  poll_is_over found same =
      let here : Seat = with_seen found (record seat { command = Poll; point = Polling Asking }) in
      ap (λ b. with_entries (cond b (polling_over Poll here) (answer_next (record here { asked = found }))) (cond b (phase_told number Poll found) [])) same
