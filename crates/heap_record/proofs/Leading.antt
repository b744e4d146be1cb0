-- What events have led to, and what more of them lead to.
use Rattle.std.proofs.Common.{◌≡◌, ℕ, List, [], ◌∷◌, ◌++◌, inl, inr, refl, sym, ap, subst, ◌∙◌, arith}
use Rattle.std.proofs.lemmas.Bool.Decides.{eqb_tells}
use Rattle.std.proofs.lemmas.List.{append-nil}
use Rattle.heap_model.specs.declared.calls.collect.Inner.{Inner}
use Rattle.heap_model.specs.declared.calls.collector_calls.Turn.{Turn}
use Rattle.heap_model.specs.declared.command.Command.{Command}
use Rattle.heap_model.specs.declared.entry.Entry.{Entry}
use Rattle.heap_model.specs.declared.heap.Heap.{Heap}
use Rattle.heap_model.specs.declared.reply.Reply.{Reply}
use Rattle.heap_model.specs.Heap.{IsHeap}
use Rattle.core_machine.specs.declared.point.Point.TheVariants.{Idle}
use Rattle.core_machine.specs.machine.Calls.{call_events}
use Rattle.core_machine.specs.machine.InnerCalls.{inner_events}
use Rattle.core_machine.specs.machine.Machine.{State, seat_at, Event, Turns, Run, state_after_all, history}
use Rattle.core_machine.specs.machine.Opening.{IsOpening}
use Rattle.core_machine.specs.seat.Seat.{Seat}
use Rattle.core_rule.specs.runs.Laws.{EveryRunKeeps, StandsFor, AllIdle}
use Rattle.core_rule.proofs.parties.MoreEvents.{Run-append, after_all-append, history-append}
use Rattle.core_rule.proofs.parties.OneSeat.{SameBut, others_same_after_call, others_same_after_inner}
use Rattle.core_rule.proofs.parties.OpenedSeats.{opened_is_all_idle}
use Rattle.heap_record.specs.Recorded.{Recorded, EventsLeadTo, StandsStill, MakesCall, MakesInner, MakesTurn}

-- nothing has happened yet
pub events_lead_to_start : (Are : Heap → State → List Event → Type 0) (heap : Heap) (state : State) (told : List Entry) → IsHeap heap → IsOpening heap state → told ≡ [] → Are heap state [] → EventsLeadTo Are heap state told
events_lead_to_start Are heap state told limits opens none are =
    rw none (record { limits = limits; opening = state; opens = opens; events = []; are = are; run = tt; ends = refl; shown = refl; all_idle = opened_is_all_idle heap state opens })

module _ (Are : Heap → State → List Event → Type 0) (heap : Heap) (state : State) (told : List Entry) (led : EventsLeadTo Are heap state told) where
  -- some book stands for what they have led to
  pub book_stands_for_state : EveryRunKeeps → StandsFor heap state [] told
  book_stands_for_state runs = rw (led.shown, led.ends) (runs heap led.opening led.events led.limits led.opens led.run)

  -- more of them lead on
  led_more : (new : State) (added : List Entry) (more : List Event) → Run heap state more → new ≡ state_after_all heap state more → history heap state more ≡ added → AllIdle new
      → Are heap led.opening (led.events ++ more) → EventsLeadTo Are heap new (told ++ added)
  led_more new added more can ends shown idle are =
      record {
        limits = led.limits;
        opening = led.opening;
        opens = led.opens;
        events = led.events ++ more;
        are = are;
        run = Run-append heap led.opening led.events more led.run (subst (λ (s : State). Run heap s more) led.ends can);
        ends = ends ∙ ap (λ (s : State). state_after_all heap s more) led.ends ∙ sym (after_all-append heap led.opening led.events more);
        shown = ap (λ (l : List Entry). l ++ added) led.shown
            ∙ ap (λ (l : List Entry). history heap led.opening led.events ++ l) (sym shown ∙ ap (λ (s : State). history heap s more) led.ends)
            ∙ sym (history-append heap led.opening led.events more);
        all_idle = idle;
      }

  -- where one seat alone has changed and has no call in flight, none has
  idle_but : (new : State) (number : ℕ) → SameBut number state new → (seat_at new number).point ≡ Idle → AllIdle new
  idle_but new number others idle other below = elim (eqb_tells other number) as (λ _. (seat_at new other).point ≡ Idle) [
    | inl same ↦ subst (λ (n : ℕ). (seat_at new n).point ≡ Idle) (sym same.1) idle
    | inr apart ↦ ap (λ (t : Seat). t.point) (others.others other apart.1) ∙ led.all_idle other (omega (arith, below, others.seats))
  ]

module _ (Are : Heap → State → List Event → Type 0) (old new : Recorded) (led : EventsLeadTo Are old.machine.heap old.machine.state old.history) where
  -- by a call
  pub events_lead_on_by_call : (number : ℕ) (command : Command) (reply : Reply) → (makes : MakesCall old new number command reply)
      → Are old.machine.heap led.opening (led.events ++ call_events number command makes.call.steps) → EventsLeadTo Are new.machine.heap new.machine.state new.history
  events_lead_on_by_call number command reply makes are =
      let heap = old.machine.heap in
      let call = makes.call in
      let others = others_same_after_call heap old.machine.state new.machine.state number command reply call in
      rw (makes.same_heap, makes.noted) (led_more Are heap old.machine.state old.history led new.machine.state _ (call_events number command call.steps) call.can call.ends call.shown
      (idle_but Are heap old.machine.state old.history led new.machine.state number others call.idle) are)

  -- by an inner call
  pub events_lead_on_by_inner : (number : ℕ) (inner : Inner) → (makes : MakesInner old new number inner)
      → Are old.machine.heap led.opening (led.events ++ inner_events number inner makes.plays.steps) → EventsLeadTo Are new.machine.heap new.machine.state new.history
  events_lead_on_by_inner number inner makes are =
      let heap = old.machine.heap in
      let plays = makes.plays in
      let others = others_same_after_inner heap old.machine.state new.machine.state number inner plays in
      let idle = ap (λ (t : Seat). t.point) plays.seat ∙ led.all_idle number plays.can.0.0 in
      rw (makes.same_heap, makes.noted) (led_more Are heap old.machine.state old.history led new.machine.state _ (inner_events number inner plays.steps) plays.can plays.ends plays.shown
      (idle_but Are heap old.machine.state old.history led new.machine.state number others idle) are)

  -- by a turn
  pub events_lead_on_by_turn : (turn : Turn) → MakesTurn old new turn → Are old.machine.heap led.opening (led.events ++ Turns ∷ []) → EventsLeadTo Are new.machine.heap new.machine.state new.history
  events_lead_on_by_turn turn makes are =
      let heap = old.machine.heap in
      let state = old.machine.state in
      rw (makes.same_heap, makes.after, makes.noted) (led_more Are heap state old.history led _ _ (Turns ∷ []) (makes.can, tt) refl (append-nil _) led.all_idle are)

  -- and by nothing
  pub events_lead_on_still : StandsStill old new → EventsLeadTo Are new.machine.heap new.machine.state new.history
  events_lead_on_still still = rw (still.heap_stays, still.state_stays, still.history_stays) led
