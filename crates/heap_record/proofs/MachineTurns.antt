-- What a turn comes to that was noted.
use Rattle.std.proofs.Common.{◌≡◌, ◌+◌, ◌-◌, ◌^◌, min, List, ◌++◌, length, filter, Some, sym, ap, subst, ◌∙◌, length-append, arith}
use Rattle.std.proofs.lemmas.List.Elements.{filter-append}
use Rattle.heap_model.specs.declared.calls.collector_calls.Turn.{Turn}
use Rattle.heap_model.specs.declared.entry.Entry.{Entry}
use Rattle.heap_model.specs.declared.heap.Heap.{Heap}
use Rattle.heap_model.specs.account.Noting.{is_collectors}
use Rattle.heap_model.specs.account.PhaseCounts.{phase}
use Rattle.heap_model.specs.calls.CollectorCalls.{ComesTo}
use Rattle.core_machine.specs.machine.Machine.{Turns, Can, next_turn, found_by, state_after, entries}
use Rattle.core_machine.specs.machine.Value.{MachineValue}
use Rattle.core_rule.specs.runs.Laws.{EveryRunKeeps, EachEventKeeps, EachTurnComesTo, IsToldBy}
use Rattle.core_rule.proofs.parties.Collectors.{all_are_collectors}
use Rattle.core_rule.proofs.parties.TurnLogs.{TurnFacts, turn_facts}
use Rattle.heap_record.specs.Recorded.{Recorded, EventsLeadTo, AnyEvents, MakesTurn, collector_of}
use Rattle.heap_record.proofs.Calls.{AddsTold, room_lost_within_entries}
use Rattle.heap_record.proofs.Leading.{book_stands_for_state}

-- the turn's facts where events led to the machine, whose heap is this one
pub turn_facts_of_machine : EveryRunKeeps → EachEventKeeps → EachTurnComesTo → (old : Recorded) (two : MachineValue) (heap : Heap) → EventsLeadTo AnyEvents old.machine.heap old.machine.state old.history
    → Can old.machine.heap old.machine.state Turns → two.state ≡ state_after old.machine.heap old.machine.state Turns → heap ≡ old.machine.heap → TurnFacts old.machine two heap.seats
turn_facts_of_machine runs keeps each old two heap led can after same =
    let s = book_stands_for_state AnyEvents old.machine.heap old.machine.state old.history led runs in
    turn_facts keeps each old.machine two old.history heap.seats s can after (ap (λ (h : Heap). h.seats) same ∙ sym s.stands.rule.machine.seated)

-- so it is what contracts say of it
pub turn_is_made : EveryRunKeeps → EachTurnComesTo → (old new : Recorded) (turn : Turn) (told : List Entry) → EventsLeadTo AnyEvents old.machine.heap old.machine.state old.history → AddsTold old (record new { turns = old.turns; last_turn = old.last_turn }) told
    → told ≡ entries old.machine.heap old.machine.state Turns → Can old.machine.heap old.machine.state Turns → new.machine.state ≡ state_after old.machine.heap old.machine.state Turns
    → turn ≡ (next_turn old.machine.heap old.machine.state.collector).answer (found_by old.machine.heap old.machine.state (next_turn old.machine.heap old.machine.state.collector).step)
    → new.turns ≡ min (old.turns + 1) (2 ^ 64 - 1) → new.last_turn ≡ Some turn → MakesTurn old new turn
turn_is_made runs each old new turn told led is told_is can after answered counted last =
    let heap = old.machine.heap in
    let state = old.machine.state in
    let added : List Entry = entries heap state Turns in
    let s = book_stands_for_state AnyEvents heap state old.history led runs in
    let noted : new.history ≡ old.history ++ added = is.noted ∙ ap (λ (l : List Entry). old.history ++ l) told_is in
    let told_old : IsToldBy s.book.history (collector_of old) = record { log_told = ap (filter is_collectors) (sym s.grown); phase_told = ap phase (sym s.grown) } in
    let with_it : new.history ≡ s.book.history ++ added = noted ∙ ap (λ es. es ++ added) (sym s.grown) in
    let told_new : IsToldBy (s.book.history ++ added) (collector_of new) = record { log_told = ap (filter is_collectors) with_it; phase_told = ap phase with_it } in
    let comes = each heap state s.book (collector_of old) (collector_of new) s.stands can told_old told_new in
    let kept = room_lost_within_entries old (record new { turns = old.turns; last_turn = old.last_turn }) told is in
    let longer = ap (length {A = Entry}) noted ∙ length-append old.history added in
    let filtered = ap (length {A = Entry}) (ap (filter is_collectors) noted ∙ filter-append is_collectors old.history added ∙ ap (λ es. filter is_collectors old.history ++ es) (all_are_collectors added comes.0))
    ∙ length-append (filter is_collectors old.history) added in
    record {
      same_heap = is.same_heap;
      can = can;
      after = after;
      noted = noted;
      listed = is.listed ∙ ap (λ (l : List Entry). old.listed ++ l) told_is;
      answered = answered;
      own = comes.0;
      turned = record {
        comes_to = subst (ComesTo (collector_of old) (collector_of new)) (sym answered) comes.1;
        spare = omega (arith, kept, longer, filtered);
        no_more = λ some. omega (arith, is.left);
        counted = counted;
        last = last;
      };
    }
