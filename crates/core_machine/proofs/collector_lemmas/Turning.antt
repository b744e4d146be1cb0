-- A machine after a turn of the collector.
use Rattle.std.proofs.Common.{◌≡◌, ℕ, ◌+◌, ◌≤◌, List, [], ◌∷◌, ◌++◌, length, map, refl, ap, subst, sym, eq-eqb}
use Rattle.std.proofs.Math.ListN.{length-map}
use Rattle.heap_model.specs.declared.calls.collector_calls.Turn.{Turn}
use Rattle.core_machine.proofs.Terms.{Heap, Step, FoundPointsWithin, put, InTable, address_of, word_after, found_by, state_after, Turns, SeatWithRoom, MachineValue, spare_of, SpendsRoom, IsMachine}
use Rattle.core_machine.specs.collector.Collector.{Collector, next_turn, collector_after}
use Rattle.core_machine.proofs.collector_lemmas.{turn_stands}
use Rattle.core_machine.proofs.machine_lemmas.Parties.{state_of, value_of, each_but_last, last_here}
use Rattle.core_machine.proofs.machine_lemmas.Runs.{event_leaves_machine}

module _ (heap : Heap) (words : List ℕ) (parties : List SeatWithRoom) (collector : Collector) (room gone : ℕ) (value : MachineValue) (step : Step)
    (view : value_of heap words parties collector room gone ≡ value) (by_value : (next_turn value.heap value.state.collector).step ≡ step) where
  due : (next_turn heap collector).step ≡ step
  due = subst (λ (v : MachineValue). (next_turn v.heap v.state.collector).step ≡ step) (sym view) by_value

  -- it touches a word of the table
  pub turn_word_in_table : IsMachine heap (state_of words parties collector) → InTable heap (address_of step)
  turn_word_in_table machine = subst (λ (s : Step). InTable heap (address_of s)) due (turn_stands heap collector machine.limits machine.collector_fit).step.in_table

  -- and finds one that leads within the heap
  pub turn_finds_within_heap : (found : ℕ) → found ≡ found_by heap (state_of words parties collector) step → IsMachine heap (state_of words parties collector)
      → FoundPointsWithin heap (address_of (next_turn heap collector).step) found
  turn_finds_within_heap found is machine =
      subst (λ (s : Step). FoundPointsWithin heap (address_of s) found) (sym due)
      (subst (FoundPointsWithin heap (address_of step)) (sym is) (machine.leads (address_of step) (turn_word_in_table machine)))

  -- the word found, the words after and the collector after are told by equations
  turn_leaves : (found : ℕ) (now : List ℕ) (next : Collector) → found ≡ found_by heap (state_of words parties collector) step
      → now ≡ put heap words (address_of step) (word_after step found) → next ≡ collector_after (next_turn heap collector) found
      → state_of now parties next ≡ state_after heap (state_of words parties collector) Turns
  turn_leaves found now next is now_is next_is = rw (now_is, next_is, is, due) refl

  -- the turn leaves a machine
  pub turn_leaves_machine : (found : ℕ) (now : List ℕ) (next : Collector) → found ≡ found_by heap (state_of words parties collector) step
      → now ≡ put heap words (address_of step) (word_after step found) → next ≡ collector_after (next_turn heap collector) found
      → (next_turn heap collector).may → IsMachine heap (state_of words parties collector) → IsMachine heap (state_of now parties next)
  turn_leaves_machine found now next is now_is next_is may machine =
      subst (IsMachine heap) (sym (turn_leaves found now next is now_is next_is)) (event_leaves_machine heap (state_of words parties collector) Turns machine may)

  -- it leaves the state after it
  pub turn_leaves_state : (found : ℕ) (now : List ℕ) (next : Collector) → found ≡ found_by heap (state_of words parties collector) step
      → now ≡ put heap words (address_of step) (word_after step found) → next ≡ collector_after (next_turn heap collector) found
      → state_of now parties next ≡ state_after value.heap value.state Turns
  turn_leaves_state found now next is now_is next_is =
      subst (λ (v : MachineValue). state_of now parties next ≡ state_after v.heap v.state Turns) view (turn_leaves found now next is now_is next_is)

  -- of the same heap
  pub same_heap : heap ≡ value.heap
  same_heap = ap (λ (v : MachineValue). v.heap) view

  -- what the value says of the turn is so of the collector
  pub turn_may : (next_turn heap collector).may → (next_turn value.heap value.state.collector).may
  turn_may may = subst (λ (v : MachineValue). (next_turn v.heap v.state.collector).may) view may

  pub turn_found : (found : ℕ) → found ≡ found_by heap (state_of words parties collector) step → found ≡ found_by value.heap value.state step
  turn_found found is = subst (λ (v : MachineValue). found ≡ found_by v.heap v.state step) view is

  pub turn_answer : (found : ℕ) (answer : Turn) → answer ≡ (next_turn heap collector).answer found → answer ≡ (next_turn value.heap value.state.collector).answer found
  turn_answer found answer is = subst (λ (v : MachineValue). answer ≡ (next_turn v.heap v.state.collector).answer found) view is

  pub collector_room : 2 ≤ spare_of value (length value.state.seats) → 2 ≤ room
  collector_room enough =
      let long = length-map parties (λ (s : SeatWithRoom). s.seat) in
      let is = last_here (λ (s : SeatWithRoom). s.spare) parties room in
      let had : 2 ≤ spare_of (value_of heap words parties collector room gone) (length parties) = rw long at (rw (← view) at enough) in
      rw is at had

-- the number behind the seats' is the collector's: it lost no more room than its new entries take, it got none, and no seat lost any
pub turn_spends : (heap : Heap) (words now : List ℕ) (parties : List SeatWithRoom) (collector next : Collector) (room left gone kept : ℕ) (value : MachineValue)
    → value_of heap words parties collector room gone ≡ value → kept ≡ gone → room + length collector.log ≤ left + length next.log → left ≤ room
    → SpendsRoom value (value_of heap now parties next left kept) (length value.state.seats)
turn_spends heap words now parties collector next room left gone kept value view same own no_more =
    subst (λ (v : MachineValue). SpendsRoom v (value_of heap now parties next left kept) (length v.state.seats)) view
    (rw (length-map parties (λ (s : SeatWithRoom). s.seat)) record {
      forgotten = ap (λ (n : ℕ). map (λ (s : SeatWithRoom). s.forgotten) parties ++ n ∷ []) same;
      own = rw (last_here (λ s. s.spare) parties room, last_here (λ s. s.spare) parties left, length-map parties (λ (s : SeatWithRoom). s.seat), eq-eqb (length parties) (length parties) refl) own;
      no_more = rw (last_here (λ s. s.spare) parties room, last_here (λ s. s.spare) parties left) no_more;
      others = λ other apart. each_but_last (λ s. s.spare) parties room left other apart;
    })
