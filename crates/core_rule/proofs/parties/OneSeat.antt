-- A call changes its own seat alone.
use Rattle.std.proofs.Common.{◌≡◌, ◌≢◌, ℕ, zero, suc, length, Option, None, Some, refl, ap, ◌∙◌, replicate, subst, sym, arith}
use Rattle.std.proofs.lemmas.List.{get_or-set_other, length-set}
use Rattle.core_rule.proofs.Terms.{Heap, Command, Reply, State, seat_at, Begins, BeginsInner, Steps, state_after_due, state_after, state_after_all, Move, next_move, absent_seat}
use Rattle.core_rule.proofs.Terms.{IsAlone, NotesNow, OneCallAtATime}
use Rattle.core_machine.specs.machine.Calls.{call_events, PlaysCall}
use Rattle.heap_model.specs.declared.calls.collect.Inner.{Inner}
use Rattle.core_machine.specs.machine.InnerCalls.{inner_events, PlaysInner}

-- a state with the same seats but for one, and the same collector
pub record SameBut (number : ℕ) (old new : State) : Type 0 where
  pub seats : length new.seats ≡ length old.seats
  pub others : (other : ℕ) → other ≢ number → seat_at new other ≡ seat_at old other
  pub collector : new.collector ≡ old.collector

same_then : (number : ℕ) (one two three : State) → SameBut number one two → SameBut number two three → SameBut number one three
same_then number one two three first then_ =
    record { seats = then_.seats ∙ first.seats; others = λ other apart. then_.others other apart ∙ first.others other apart; collector = then_.collector ∙ first.collector }

moved_same : (heap : Heap) (state : State) (number : ℕ) (move : Option Move) → SameBut number state (state_after_due heap state number move)
moved_same heap state number None = record { seats = refl; others = λ other apart. refl; collector = refl }
moved_same heap state number (Some move) =
    record { seats = length-set state.seats number _; others = λ other apart. get_or-set_other state.seats number other _ absent_seat apart; collector = refl }

begun_same : (heap : Heap) (state : State) (number : ℕ) (command : Command) → SameBut number state (state_after heap state (Begins number command))
begun_same heap state number command =
    record { seats = length-set state.seats number _; others = λ other apart. get_or-set_other state.seats number other _ absent_seat apart; collector = refl }

steps_same : (heap : Heap) (number steps : ℕ) (state : State) → SameBut number state (state_after_all heap state (replicate steps (Steps number)))
steps_same heap number zero state = record { seats = refl; others = λ other apart. refl; collector = refl }
steps_same heap number (suc steps) state =
    same_then number state (state_after heap state (Steps number)) _ (moved_same heap state number (next_move heap number (seat_at state number))) (steps_same heap number steps (state_after heap state (Steps number)))

call_same : (heap : Heap) (number steps : ℕ) (command : Command) (state : State) → SameBut number state (state_after_all heap state (call_events number command steps))
call_same heap number steps command state =
    same_then number state (state_after heap state (Begins number command)) _ (begun_same heap state number command) (steps_same heap number steps (state_after heap state (Begins number command)))

-- so who is alone stays so
alone_still : (number : ℕ) (old new : State) → SameBut number old new → IsAlone old number → IsAlone new number
alone_still number old new same alone =
    λ other below apart. ap (λ s. s.point) (same.others other apart) ∙ alone other (omega (arith, below, same.seats)) apart

steps_alone : (heap : Heap) (number steps : ℕ) (state : State) → IsAlone state number → OneCallAtATime heap state (replicate steps (Steps number))
steps_alone heap number zero state alone = tt
steps_alone heap number (suc steps) state alone =
    (alone, steps_alone heap number steps (state_after heap state (Steps number)) (alone_still number state (state_after heap state (Steps number)) (moved_same heap state number (next_move heap number (seat_at state number))) alone))

-- a call of a seat that is alone is a whole call
pub call_events_are_one_call : (heap : Heap) (number steps : ℕ) (command : Command) (state : State) → IsAlone state number → OneCallAtATime heap state (call_events number command steps)
call_events_are_one_call heap number steps command state alone =
    (alone, steps_alone heap number steps (state_after heap state (Begins number command)) (alone_still number state (state_after heap state (Begins number command)) (begun_same heap state number command) alone))

-- so the other seats are as before
pub others_same_after_call : (heap : Heap) (old new : State) (number : ℕ) (command : Command) (reply : Reply) → PlaysCall heap old new number command reply → SameBut number old new
others_same_after_call heap old new number command reply call = subst (SameBut number old) (sym call.ends) (call_same heap number call.steps command old)

-- so it is with an inner call of a collect
inner_begun : (heap : Heap) (state : State) (number : ℕ) (inner : Inner) → SameBut number state (state_after heap state (BeginsInner number inner))
inner_begun heap state number inner =
    record { seats = length-set state.seats number _; others = λ other apart. get_or-set_other state.seats number other _ absent_seat apart; collector = refl }

pub inner_events_are_one_call : (heap : Heap) (number steps : ℕ) (inner : Inner) (state : State) → IsAlone state number → NotesNow heap state inner → OneCallAtATime heap state (inner_events number inner steps)
inner_events_are_one_call heap number steps inner state alone now =
    ((alone, now), steps_alone heap number steps (state_after heap state (BeginsInner number inner)) (alone_still number state (state_after heap state (BeginsInner number inner)) (inner_begun heap state number inner) alone))

pub others_same_after_inner : (heap : Heap) (old new : State) (number : ℕ) (inner : Inner) → PlaysInner heap old new number inner → SameBut number old new
others_same_after_inner heap old new number inner plays =
    subst (SameBut number old) (sym plays.ends)
    (same_then number old (state_after heap old (BeginsInner number inner)) _ (inner_begun heap old number inner) (steps_same heap number plays.steps (state_after heap old (BeginsInner number inner))))
