-- An inner call of a collect that a seat makes from its begin to its end, with no step of others between.
use Rattle.std.specs.Prelude.{◌≡◌, ℕ, ◌==◌, if◌then◌else◌, List, [], ◌∷◌, ◌++◌, replicate}
use Rattle.heap_model.specs.declared.calls.collect.Inner.{Inner}
use Rattle.heap_model.specs.declared.calls.collect.Inner.TheVariants.{Look, Answer, Behind, Note}
use Rattle.heap_model.specs.declared.command.Command.TheVariants.{Collect}
use Rattle.heap_model.specs.declared.entry.Entry.{Entry}
use Rattle.heap_model.specs.declared.entry.Entry.TheVariants.{Said, Answers}
use Rattle.heap_model.specs.declared.heap.Heap.{Heap}
use Rattle.core_machine.specs.declared.table.address.Address.TheVariants as addresses
use Rattle.core_machine.specs.machine.Machine.{State, seat_at, Event, BeginsInner, Steps, Run, state_after_all, history}
use Rattle.core_machine.specs.seat.Looks.{Looks, forgotten, looked, seen_phase, compared, noted_reply}
use Rattle.core_machine.specs.seat.Seat.{Seat}
use Rattle.core_machine.specs.table.Layout.{at}

-- an inner call is begun, and the seat makes this many steps
abbrev pub inner_events : ℕ → Inner → ℕ → List Event
inner_events number inner steps = BeginsInner number inner ∷ replicate steps (Steps number)

-- what the seat has found after the inner call, by the words at its begin
abbrev pub looks_after : Heap → List ℕ → Looks → Inner → Looks
looks_after heap words looks Look = looked (at heap words addresses.Phase) looks
looks_after heap words looks Answer = seen_phase (at heap words addresses.Phase) looks
looks_after heap words looks (Behind other) =
    compared other (at heap words addresses.Phase) (at heap words (addresses.Answer other)) (seen_phase (at heap words addresses.Phase) looks)
looks_after heap words looks (Note reply) = forgotten (seen_phase (at heap words addresses.Phase) looks)

-- the phase that the seat has answered last after the inner call
abbrev pub answered_after : Heap → List ℕ → ℕ → Inner → ℕ
answered_after heap words answered Look = answered
answered_after heap words answered Answer = at heap words addresses.Phase
answered_after heap words answered (Behind other) = answered
answered_after heap words answered (Note reply) = answered

-- what the inner call tells: the answer to a phase that wasn't answered yet, or the reply that is noted
abbrev pub inner_entries : Heap → List ℕ → ℕ → ℕ → Inner → List Entry
inner_entries heap words number answered Look = []
inner_entries heap words number answered Answer =
    if at heap words addresses.Phase == answered then [] else Answers number (at heap words addresses.Phase) ∷ []
inner_entries heap words number answered (Behind other) = []
inner_entries heap words number answered (Note reply) = Said number Collect (noted_reply reply) ∷ []

-- the seat after the inner call: with what it has answered, found and told, and else as it was
abbrev pub seat_after_inner : Heap → List ℕ → ℕ → Seat → Inner → Seat
seat_after_inner heap words number seat inner = record seat {
  command = Collect;
  answered = answered_after heap words seat.answered inner;
  looks = looks_after heap words seat.looks inner;
  mine = seat.mine ++ inner_entries heap words number seat.answered inner;
}

-- the second state is the first after the inner call's steps, which left the seat so, and the history has what it told
pub record PlaysInner (heap : Heap) (old new : State) (number : ℕ) (inner : Inner) : Type 0 where
  pub steps : ℕ
  pub can : Run heap old (inner_events number inner steps)
  pub ends : new ≡ state_after_all heap old (inner_events number inner steps)
  pub shown : history heap old (inner_events number inner steps) ≡ inner_entries heap old.words number (seat_at old number).answered inner
  pub seat : seat_at new number ≡ seat_after_inner heap old.words number (seat_at old number) inner
