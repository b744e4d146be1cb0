-- What a call comes to that was made after some room was, and noted.
use Rattle.std.proofs.Common.{◌≡◌, ◌≢◌, ℕ, ◌+◌, ◌-◌, ◌*◌, ◌<◌, ◌≤◌, List, [], ◌∷◌, ◌++◌, length, drop, get_or, sym, ap, subst, ◌∙◌, length-append, arith}
use Rattle.std.proofs.lemmas.List.{length-drop, drop-drop}
use Rattle.heap_model.specs.declared.command.Command.{Command}
use Rattle.heap_model.specs.declared.command.Command.TheVariants.{Leave}
use Rattle.heap_model.specs.declared.entry.Entry.{Entry}
use Rattle.heap_model.specs.declared.entry.Entry.TheVariants.{Said}
use Rattle.heap_model.specs.declared.heap.Heap.{Heap}
use Rattle.heap_model.specs.declared.reply.Reply.{Reply}
use Rattle.heap_model.specs.account.Space.{need_of}
use Rattle.heap_model.specs.account.Turned.{without_turned}
use Rattle.heap_model.specs.calls.SeatLaws.{EachCallIsShort}
use Rattle.core_machine.specs.machine.Calls.{PlaysCall, CountsCall, AnswersNew, AnswersArray, TellsLeave, IsPlaceRefusal, LeavesAll}
use Rattle.core_machine.specs.machine.Machine.{State, seat_at}
use Rattle.core_machine.specs.machine.Value.{MachineValue, log_of, recent_of, forgotten_of, spare_of, SpendsRoom}
use Rattle.core_machine.specs.seat.Commands.{IsRecordCall, IsArrayCall}
use Rattle.core_rule.specs.runs.Laws.{EveryRunKeeps}
use Rattle.core_rule.proofs.parties.Logs.{log_grows, log_grows_by_call}
use Rattle.core_rule.proofs.parties.OneSeat.{others_same_after_call}
use Rattle.core_rule.proofs.parties.Standing.{phase_word_is_near}
use Rattle.heap_record.specs.Recorded.{Recorded, EventsLeadTo, AnyEvents, MakesCall}
use Rattle.heap_record.proofs.HeapEntries.{AreOfHeap, without_turned_of_append, call_entries_are_of_heap}
use Rattle.heap_record.proofs.Leading.{book_stands_for_state}

-- what the log of the party has more
abbrev pub since : MachineValue → MachineValue → ℕ → List Entry
since one two party = drop (length (log_of one party)) (log_of two party)

-- these entries were noted, and take room; no turn was made
pub record AddsTold (old new : Recorded) (told : List Entry) : Type 0 where
  pub same_heap : new.machine.heap ≡ old.machine.heap
  pub noted : new.history ≡ old.history ++ told
  pub listed : new.listed ≡ old.listed ++ told
  pub left : new.spare ≡ old.spare - length told
  pub turns_stay : new.turns ≡ old.turns
  pub last_stays : new.last_turn ≡ old.last_turn

-- so no more room was lost than they take
pub room_lost_within_entries : (old new : Recorded) (told : List Entry) → AddsTold old new told → old.spare + length old.history ≤ new.spare + length new.history
room_lost_within_entries old new told is = omega (arith, is.left, ap (length {A = Entry}) is.noted, length-append old.history told)

-- this was recent of the party before, and nothing was forgotten since
pub record Remembers (one two : MachineValue) (party : ℕ) (before : List Entry) : Type 0 where
  pub recent : before ≡ recent_of one party
  pub within : forgotten_of one party ≤ length (log_of one party)
  pub same : two.forgotten ≡ one.forgotten

-- so what is behind it is what the log has more
pub recent_behind_is_since : (one two : MachineValue) (party : ℕ) (before : List Entry) → Remembers one two party before → drop (length before) (recent_of two party) ≡ since one two party
recent_behind_is_since one two party before remembers =
    let gone = forgotten_of one party in
    let same : forgotten_of two party ≡ gone = ap (λ (l : List ℕ). get_or l party 0) remembers.same in
    let long : length before ≡ length (log_of one party) - gone = ap (length {A = Entry}) remembers.recent ∙ length-drop gone (log_of one party) in
    let whole : gone + length before ≡ length (log_of one party) = omega (arith, long, remembers.within) in
    ap (λ (n : ℕ). drop (length before) (drop n (log_of two party))) same ∙ drop-drop (length before) gone (log_of two party) ∙ ap (λ (n : ℕ). drop n (log_of two party)) whole

-- and there is as much
pub recent_only_grows : (one two : MachineValue) (party : ℕ) (before : List Entry) → Remembers one two party before → length (log_of one party) ≤ length (log_of two party)
    → length before ≤ length (recent_of two party)
recent_only_grows one two party before remembers longer =
    let same : forgotten_of two party ≡ forgotten_of one party = ap (λ (l : List ℕ). get_or l party 0) remembers.same in
    let long = ap (length {A = Entry}) remembers.recent ∙ length-drop (forgotten_of one party) (log_of one party) in
    omega (arith, same, long, length-drop (forgotten_of two party) (log_of two party), longer)

-- what was noted behind it comes to the list
pub noted_list_grows_by_since : (old : Recorded) (one two : MachineValue) (party : ℕ) (before had now : List Entry) → Remembers one two party before → now ≡ had ++ drop (length before) (recent_of two party) → had ≡ old.listed
    → now ≡ old.listed ++ since one two party
noted_list_grows_by_since old one two party before had now remembers added as_it_was =
    added ∙ ap (λ (l : List Entry). l ++ drop (length before) (recent_of two party)) as_it_was ∙ ap (λ (l : List Entry). old.listed ++ l) (recent_behind_is_since one two party before remembers)

-- the history has as much more
pub history_grows_by_told : (old : Recorded) (now told : List Entry) → old.history ≡ without_turned old.listed → now ≡ old.listed ++ told → AreOfHeap told → without_turned now ≡ old.history ++ told
history_grows_by_told old now told same added plain = ap without_turned added ∙ without_turned_of_append old.listed told plain ∙ ap (λ (l : List Entry). l ++ told) (sym same)

-- a whole call of the machine, and what its seat told by it
pub record CallMade (heap : Heap) (old new : State) (told : List Entry) (number : ℕ) (command : Command) (reply : Reply) : Type 0 where
  pub call : PlaysCall heap old new number command reply
  pub told_is : told ≡ call.before ++ Said number command reply ∷ []
  pub counts : CountsCall (seat_at old number) (seat_at new number) command
  pub answer : IsRecordCall command → AnswersNew heap old new number command reply
  pub array : IsArrayCall command → AnswersArray heap old new number command reply
  pub leave : command ≡ Leave → TellsLeave old new number
  pub refused : IsPlaceRefusal reply → LeavesAll heap old new number reply

-- it tells none of the collector's answers
pub made_entries_are_of_heap : (heap : Heap) (old new : State) (told : List Entry) (number : ℕ) (command : Command) (reply : Reply) → CallMade heap old new told number command reply → AreOfHeap told
made_entries_are_of_heap heap old new told number command reply made = subst AreOfHeap (sym made.told_is) (call_entries_are_of_heap heap old new number command reply made.call)

-- the collector's room is as it was where only a seat's entries were forgotten
pub collector_room_stays : (old : Recorded) (two three : MachineValue) (number : ℕ) → number < length two.state.seats → spare_of two (length two.state.seats) ≡ spare_of old.machine (length old.machine.state.seats)
    → three ≡ record two { spares = three.spares; forgotten = three.forgotten } → ((other : ℕ) → other ≢ number → spare_of three other ≡ spare_of two other)
    → spare_of three (length three.state.seats) ≡ spare_of old.machine (length old.machine.state.seats)
collector_room_stays old two three number within own same others =
    ap (λ (m : MachineValue). spare_of three (length m.state.seats)) same ∙ others (length two.state.seats) (λ e. omega (arith, e, within)) ∙ own

-- it was the machine's and is short; the collector's room is as it was
pub record CallFacts (old : Recorded) (one two : MachineValue) (number : ℕ) (command : Command) (reply : Reply) : Type 0 where
  pub within : number < length two.state.seats
  pub longer : length (log_of one number) ≤ length (log_of two number)
  pub made : CallMade old.machine.heap old.machine.state two.state (since one two number) number command reply
  pub short : length (since one two number) ≤ 2 * need_of command + 2
  pub own_room : spare_of two (length two.state.seats) ≡ spare_of old.machine (length old.machine.state.seats)

pub call_facts : EveryRunKeeps → EachCallIsShort → (old : Recorded) (one two : MachineValue) (number : ℕ) (command : Command) (reply : Reply) → EventsLeadTo AnyEvents old.machine.heap old.machine.state old.history
    → one ≡ record old.machine { spares = one.spares } → ((other : ℕ) → other ≢ number → spare_of one other ≡ spare_of old.machine other)
    → (steps : PlaysCall one.heap one.state two.state number command reply) → CountsCall (seat_at one.state number) (seat_at two.state number) command
    → (IsRecordCall command → AnswersNew one.heap one.state two.state number command reply) → (IsArrayCall command → AnswersArray one.heap one.state two.state number command reply)
    → (command ≡ Leave → TellsLeave one.state two.state number) → (IsPlaceRefusal reply → LeavesAll one.heap one.state two.state number reply) → SpendsRoom one two number → CallFacts old one two number command reply
call_facts runs each_short old one two number command reply led same others steps counts answer array leave refused spent =
    let heap = old.machine.heap in
    let state = old.machine.state in
    let same_heap : one.heap ≡ heap = ap (λ (m : MachineValue). m.heap) same in
    let same_state : one.state ≡ state = ap (λ (m : MachineValue). m.state) same in
    let here : CallMade one.heap one.state two.state (since one two number) number command reply
    = record { call = steps; told_is = log_grows_by_call one two number command reply steps.can.0.0 steps; counts = counts; answer = answer; array = array; leave = leave; refused = refused } in
    let made : CallMade heap state two.state (since one two number) number command reply = subst (λ (h : Heap). CallMade h state two.state (since one two number) number command reply) same_heap
    (subst (λ (t : State). CallMade one.heap t two.state (since one two number) number command reply) same_state here) in
    let call = made.call in
    let s = book_stands_for_state AnyEvents heap state old.history led runs in
    let can = call.can.0 in
    let below : number < heap.seats = omega (arith, can.0, s.stands.rule.machine.seated) in
    let brief = each_short number (length (seat_at state number).reserve) (seat_at state number).answered command reply call.before
    (call.comes (λ poll. phase_word_is_near heap state old.history s number below can.1.idle can.1.present)) in
    let many = ap (length {A = Entry}) made.told_is ∙ length-append call.before (Said number command reply ∷ []) in
    let after = others_same_after_call heap state two.state number command reply call in
    record {
      within = omega (arith, can.0, after.seats);
      longer = log_grows one two number command reply steps.can.0.0 steps;
      made = made;
      short = omega (arith, many, brief);
      own_room = ap (spare_of two) after.seats ∙ spent.others (length state.seats) (λ e. omega (arith, e, can.0)) ∙ others (length state.seats) (λ e. omega (arith, e, can.0));
    }

-- so it is what contracts say of it
pub call_is_made : (old new : Recorded) (one two : MachineValue) (number : ℕ) (command : Command) (reply : Reply) → CallFacts old one two number command reply → AddsTold old new (since one two number)
    → new.machine.state ≡ two.state → MakesCall old new number command reply
call_is_made old new one two number command reply facts is same =
    let made = subst (λ (t : State). CallMade old.machine.heap old.machine.state t (since one two number) number command reply) (sym same) facts.made in
    record {
      same_heap = is.same_heap;
      call = made.call;
      noted = is.noted ∙ ap (λ (l : List Entry). old.history ++ l) made.told_is;
      listed = is.listed ∙ ap (λ (l : List Entry). old.listed ++ l) made.told_is;
      counts = made.counts;
      answer = made.answer;
      array = made.array;
      leave = made.leave;
      refused = made.refused;
      turns_stay = is.turns_stay;
      last_stays = is.last_stays;
      spare = room_lost_within_entries old new (since one two number) is;
      no_more = omega (arith, is.left);
    }
