-- What an inner call of a collect comes to that was made after some room was, and noted.
use Rattle.std.proofs.Common.{◌≡◌, ◌≢◌, ℕ, ◌<◌, ◌≤◌, List, ◌++◌, length, sym, ap, subst, ◌∙◌, length-append, arith}
use Rattle.std.proofs.Math.Seq.{drop-append_seam}
use Rattle.heap_model.specs.declared.calls.collect.Inner.{Inner}
use Rattle.heap_model.specs.declared.entry.Entry.{Entry}
use Rattle.heap_model.specs.declared.heap.Heap.{Heap}
use Rattle.core_machine.specs.machine.InnerCalls.{PlaysInner, inner_entries}
use Rattle.core_machine.specs.machine.Machine.{State, seat_at}
use Rattle.core_machine.specs.machine.Value.{MachineValue, log_of, spare_of, SpendsRoom}
use Rattle.core_machine.specs.seat.Seat.{Seat}
use Rattle.core_rule.proofs.parties.InnerTold.{inner_tells_one_at_most}
use Rattle.core_rule.proofs.parties.Logs.{seat_log_is_own_list}
use Rattle.core_rule.proofs.parties.OneSeat.{others_same_after_inner}
use Rattle.heap_record.specs.Recorded.{Recorded, MakesInner}
use Rattle.heap_record.proofs.Calls.{since, AddsTold, room_lost_within_entries}
use Rattle.heap_record.proofs.HeapEntries.{AreOfHeap, inner_entries_are_of_heap}

-- the call was the machine's, and it tells one entry at most; the collector's room is as it was
pub record InnerFacts (old : Recorded) (one two : MachineValue) (number : ℕ) (inner : Inner) : Type 0 where
  pub within : number < length two.state.seats
  pub longer : length (log_of one number) ≤ length (log_of two number)
  pub plays : PlaysInner old.machine.heap old.machine.state two.state number inner
  pub told : since one two number ≡ inner_entries old.machine.heap old.machine.state.words number (seat_at old.machine.state number).answered inner
  pub few : length (since one two number) ≤ 1
  pub own_room : spare_of two (length two.state.seats) ≡ spare_of old.machine (length old.machine.state.seats)

pub inner_facts : (old : Recorded) (one two : MachineValue) (number : ℕ) (inner : Inner) → one ≡ record old.machine { spares = one.spares } → ((other : ℕ) → other ≢ number → spare_of one other ≡ spare_of old.machine other)
    → PlaysInner one.heap one.state two.state number inner → SpendsRoom one two number → InnerFacts old one two number inner
inner_facts old one two number inner same others plays spent =
    let heap = old.machine.heap in
    let state = old.machine.state in
    let same_heap : one.heap ≡ heap = ap (λ (m : MachineValue). m.heap) same in
    let same_state : one.state ≡ state = ap (λ (m : MachineValue). m.state) same in
    let here : PlaysInner heap state two.state number inner
    = subst (λ (h : Heap). PlaysInner h state two.state number inner) same_heap (subst (λ (t : State). PlaysInner one.heap t two.state number inner) same_state plays) in
    let within : number < length state.seats = here.can.0.0 in
    let added : List Entry = inner_entries heap state.words number (seat_at state number).answered inner in
    let after = others_same_after_inner heap state two.state number inner here in
    let one_log : log_of one number ≡ (seat_at state number).mine = seat_log_is_own_list one number plays.can.0.0 ∙ ap (λ (t : State). (seat_at t number).mine) same_state in
    let two_log : log_of two number ≡ (seat_at state number).mine ++ added = seat_log_is_own_list two number (omega (arith, within, after.seats)) ∙ ap (λ (t : Seat). t.mine) here.seat in
    let more : log_of two number ≡ log_of one number ++ added = two_log ∙ ap (λ (l : List Entry). l ++ added) (sym one_log) in
    let told : since one two number ≡ added = rw more (drop-append_seam (log_of one number) added) in
    record {
      within = omega (arith, within, after.seats);
      longer = omega (arith, ap (length {A = Entry}) more, length-append (log_of one number) added);
      plays = here;
      told = told;
      few = omega (arith, ap (length {A = Entry}) told, inner_tells_one_at_most heap state.words number (seat_at state number).answered inner);
      own_room = ap (spare_of two) after.seats ∙ spent.others (length state.seats) (λ e. omega (arith, e, within)) ∙ others (length state.seats) (λ e. omega (arith, e, within));
    }

-- it tells none of the collector's answers
pub since_is_of_heap : (old : Recorded) (one two : MachineValue) (number : ℕ) (inner : Inner) → InnerFacts old one two number inner → AreOfHeap (since one two number)
since_is_of_heap old one two number inner facts = subst AreOfHeap (sym facts.told) (inner_entries_are_of_heap old.machine.heap old.machine.state two.state number inner facts.plays)

-- so it is what contracts say of it
pub inner_is_made : (old new : Recorded) (one two : MachineValue) (number : ℕ) (inner : Inner) → InnerFacts old one two number inner → AddsTold old new (since one two number)
    → new.machine.state ≡ two.state → MakesInner old new number inner
inner_is_made old new one two number inner facts is same = record {
  same_heap = is.same_heap;
  plays = subst (λ (t : State). PlaysInner old.machine.heap old.machine.state t number inner) (sym same) facts.plays;
  noted = is.noted ∙ ap (λ (l : List Entry). old.history ++ l) facts.told;
  listed = is.listed ∙ ap (λ (l : List Entry). old.listed ++ l) facts.told;
  turns_stay = is.turns_stay;
  last_stays = is.last_stays;
  spare = room_lost_within_entries old new (since one two number) is;
  no_more = omega (arith, is.left);
}
