-- What a call shows that is refused while the collector makes turns and no other seat makes a step.
use Rattle.std.specs.List.{AllByRecursion}
use Rattle.std.proofs.Common.{◌≡◌, ℕ, ◌+◌, ◌<◌, true, inl, inr, List, [], ◌∷◌, ◌++◌, length, refl, sym, ap, ◌∙◌, subst, append_assoc, arith}
use Rattle.std.proofs.lemmas.Bool.{eq-eqb}
use Rattle.std.proofs.lemmas.List.{get_or-set_same, get_or-set_other}
use Rattle.core_rule.proofs.Terms.{effect_of, taken_of, spent_of, words_granted, words_returned, Command, Entry, Heap, Withdrawing, State, seat_at, Event, Begins, BeginsInner}
use Rattle.core_rule.proofs.Terms.{Steps, Turns, Can, Run, state_after, after_begin, entries, history, next_move, FitsPoint, IsAtRest, Seat, absent_seat, Book, IsAlone, Rule}
use Rattle.heap_model.specs.account.Noting.{is_collectors}
use Rattle.heap_model.specs.declared.entry.Entry.TheVariants as entries
use Rattle.core_machine.specs.declared.point.Point.TheVariants as points
use Rattle.core_machine.specs.machine.Calls.{within_reach}
use Rattle.core_machine.proofs.machine_lemmas.Runs.{event_leaves_machine}
use Rattle.core_rule.specs.runs.LoneLaws.{IsOfSeat, ShowsWhatWas, EachLoneRefusalIsRight}
use Rattle.core_rule.specs.Stands.{Stands}
use Rattle.core_rule.proofs.counts.FreeSums.{free_is_unused}
use Rattle.core_rule.proofs.entries.AtRest.{seat_fits}
use Rattle.core_rule.proofs.entries.Begins.{begins}
use Rattle.core_rule.proofs.entries.InFlight.{making_is_not_answered}
use Rattle.core_rule.proofs.sweep_exact.EndsRightly.{cycle_ends_rightly}
use Rattle.core_rule.proofs.footprint.SeatCycle.{stands_after_seat_step, stands_after_begin}
use Rattle.core_rule.proofs.footprint.TurnCycle.{stands_after_turn}
use Rattle.core_rule.proofs.hand.Bodies.{bare_seat_holds_reserve}
use Rattle.core_rule.proofs.looks.Origins.{IsUsual, begin_is_usual}
use Rattle.core_rule.proofs.runs.ComingTurns.{turn_adds_collector_entries}
use Rattle.core_rule.proofs.runs.LoneEntries.{IsNoOthers, all_of_append, all_of_implied, IsShown, step_adds_are_shown}
use Rattle.core_rule.proofs.steps.Seats.{step_kind_of_each_point}
use Rattle.core_rule.proofs.runs.LoneRefusals.{sum_of_grown_history, unanswered_makes_none, GoesAlone, WasWithin, refusal_shows_what_was}
use Rattle.core_rule.proofs.runs.PlayNotes.{granted_is_used_and_returned}
use Rattle.core_rule.proofs.runs.PlayRuns.{other_seat_same_after_move}
use Rattle.core_rule.proofs.steps.Steps.{each_step_keeps, each_begin_keeps, each_turn_keeps}

module _ (heap : Heap) (number : ℕ) (before : List Entry) (here : number < heap.seats) (reach : ℕ) (was : WasWithin heap number before reach) where
  module _ (state : State) (book : Book) (goes : GoesAlone heap number before state book) where
    abbrev seat : Seat
    seat = seat_at state number

    abbrev rule : Rule heap state book
    rule = goes.stands.rule

    -- it goes on by an event, which shows what it may
    record GoesNext (now : State) (shown : List Entry) : Type 0 where
      pub next : Book
      pub goes_on : GoesAlone heap number before now next
      pub right : AllByRecursion (ShowsWhatWas reach before) shown

    -- by a step of the seat
    step_next : Can heap state (Steps number) → GoesNext (state_after heap state (Steps number)) (entries heap state (Steps number))
    step_next can =
        let now : State = state_after heap state (Steps number) in
        let es : List Entry = entries heap state (Steps number) in
        let keeps = each_step_keeps heap state book number rule here (goes.stands.looks number here) (event_leaves_machine heap state (Steps number) rule.machine can) in
        let shown : AllByRecursion (IsShown number seat) es = step_adds_are_shown heap state number es ((step_kind_of_each_point seat.point).shows heap state number) in
        let calls : keeps.now.begun number ≡ length before = ap (λ (begun : ℕ → ℕ). begun number) keeps.calls ∙ goes.calls in
        let added : List Entry = goes.added ++ es in
        let grown : keeps.now.history ≡ before ++ added = keeps.grown ∙ ap (λ xs. xs ++ es) goes.grown ∙ append_assoc before goes.added es in
        let own : AllByRecursion (IsNoOthers number) added
        = all_of_append (IsNoOthers number) goes.added es goes.own (all_of_implied (IsShown number seat) (IsNoOthers number) es (λ entry its. inl its.own) shown) in
        record {
          next = keeps.now;
          goes_on = record {
            stands = stands_after_seat_step heap state book goes.stands number here keeps;
            alone = λ other below apart.
                let same = other_seat_same_after_move heap state number other (next_move heap number seat) apart in
                ap (λ (s : Seat). s.point) same ∙ goes.alone other (rw rule.machine.seated (rw keeps.rule.machine.seated at below)) apart;
            calls = calls;
            added = added;
            grown = grown;
            own = own;
            found = λ point_is.
                let none = unanswered_makes_none heap number before keeps.now added calls grown own ((keeps.rule.seats_stand number here).told.began.unanswered (making_is_not_answered Withdrawing (seat_at now number).point point_is)) in
                let tells = granted_is_used_and_returned heap state book number rule goes.alone (rw rule.machine.seated here) can point_is in
                let granted = sum_of_grown_history (λ e. (effect_of e).words) before added keeps.now.history grown in
                let returned = sum_of_grown_history (λ e. (effect_of e).returned) before added keeps.now.history grown in
                let words_now : words_granted keeps.now.history ≡ (seat_at now number).used + words_returned keeps.now.history
                = rw keeps.grown tells in
                omega (arith, none.1, words_now, granted, returned);
          };
          right = all_of_implied (IsShown number seat) (ShowsWhatWas reach before) es (refusal_shows_what_was heap number before state book goes here reach was) shown;
        }

    -- the collector refuses nothing
    collectors_right : (entry : Entry) → is_collectors entry ≡ true → ShowsWhatWas reach before entry
    collectors_right (entries.Said other command reply) its = absurd (cc its)
    collectors_right _ its = tt

    -- by a turn
    turn_next : Can heap state Turns → GoesNext (state_after heap state Turns) (entries heap state Turns)
    turn_next can =
        let es : List Entry = entries heap state Turns in
        let keeps = each_turn_keeps heap state book rule (cycle_ends_rightly heap state book goes.stands) can (event_leaves_machine heap state Turns rule.machine can) in
        let collects = turn_adds_collector_entries heap state in
        record {
          next = keeps.now;
          goes_on = record {
            stands = stands_after_turn heap state book goes.stands state.collector.stage refl keeps;
            alone = goes.alone;
            calls = ap (λ (begun : ℕ → ℕ). begun number) keeps.calls ∙ goes.calls;
            added = goes.added ++ es;
            grown = keeps.grown ∙ ap (λ xs. xs ++ es) goes.grown ∙ append_assoc before goes.added es;
            own = all_of_append (IsNoOthers number) goes.added es goes.own (all_of_implied (λ entry. is_collectors entry ≡ true) (IsNoOthers number) es (λ entry its. inr its) collects);
            found = goes.found;
          };
          right = all_of_implied (λ entry. is_collectors entry ≡ true) (ShowsWhatWas reach before) es collectors_right collects;
        }

    event_next : (event : Event) → IsOfSeat number event → Can heap state event → GoesNext (state_after heap state event) (entries heap state event)
    event_next (Steps other) its can = subst (λ n. Can heap state (Steps n) → GoesNext (state_after heap state (Steps n)) (entries heap state (Steps n))) (sym its) step_next can
    event_next Turns its can = turn_next can
    event_next (Begins other command) its can = absurd its
    event_next (BeginsInner other inner) its can = absurd its

  -- so does each run of them
  run_right : (state : State) (book : Book) (events : List Event) → GoesAlone heap number before state book → AllByRecursion (IsOfSeat number) events
      → Run heap state events → AllByRecursion (ShowsWhatWas reach before) (history heap state events)
  run_right state book [] goes own run = tt
  run_right state book (event ∷ events) goes own run =
      let first = event_next state book goes event own.0 run.0 in
      all_of_append (ShowsWhatWas reach before) (entries heap state event) (history heap (state_after heap state event) events) first.right
      (run_right (state_after heap state event) first.next events first.goes_on own.1 run.1)

module _ (heap : Heap) (state : State) (book : Book) (number : ℕ) (command : Command) (stands : Stands heap state book) (can : Can heap state (Begins number command)) (here : number < heap.seats) where
  abbrev old : Seat
  old = seat_at state number

  -- what is free, and what is in the reserve of a seat without a call in flight, is within its reach
  reach_was : WasWithin heap number book.history (within_reach heap state number)
  reach_was =
      let rests : IsAtRest old = subst (FitsPoint heap old) can.1.idle (seat_fits stands.rule number here).at_point in
      let own : length old.reserve + spent_of number book.history ≡ taken_of number book.history
      = bare_seat_holds_reserve old.reserve old.hand old.body (spent_of number book.history) (taken_of number book.history) rests.empty_hand rests.no_body (stands.rule.seats_stand number here).told.counts.unborn in
      omega (arith, own, free_is_unused heap state book stands.rule)

  -- the call has begun
  begun_alone : IsAlone state number → (next : Book) × GoesAlone heap number book.history (state_after heap state (Begins number command)) next
  begun_alone alone =
      let keeps = each_begin_keeps heap state book number command stands.rule can (event_leaves_machine heap state (Begins number command) stands.rule.machine can) in
      let first : begins number (length book.history) book.begun number ≡ length book.history = rw (eq-eqb number number refl) refl in
      let begun : Seat = after_begin heap old command in (
        keeps.now,
        record {
          stands = stands_after_begin heap state book stands number here command (begins number (length book.history) book.begun) can keeps;
          alone = λ other below apart. ap (λ (s : Seat). s.point) (get_or-set_other state.seats number other begun absent_seat apart)
              ∙ alone other (rw stands.rule.machine.seated (rw keeps.rule.machine.seated at below)) apart;
          calls = ap (λ (begun_at : ℕ → ℕ). begun_at number) keeps.calls ∙ first;
          added = [];
          grown = keeps.grown;
          own = tt;
          found = λ point_is.
              let is : begun.point ≡ points.Making Withdrawing = ap (λ (s : Seat). s.point) (sym (get_or-set_same state.seats number begun absent_seat can.0)) ∙ point_is in
              absurd (subst IsUsual is (begin_is_usual heap old command can.1.idle));
        },
      )

pub each_lone_refusal_is_right : EachLoneRefusalIsRight
unfolding EachLoneRefusalIsRight
each_lone_refusal_is_right heap state book number command events stands call =
    let here : number < heap.seats = rw (← stands.rule.machine.seated) call.begins.0 in
    let first = begun_alone heap state book number command stands call.begins here call.alone in
    run_right heap number book.history here (within_reach heap state number) (reach_was heap state book number command stands call.begins here) (state_after heap state (Begins number command)) first.0 events first.1 call.own call.run
