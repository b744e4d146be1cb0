-- A machine after a begin, after a step, and after one party got room.
use Rattle.std.proofs.Common.{suc, ◌≡◌, ◌≢◌, ℕ, ◌+◌, ◌<◌, ◌≤◌, List, [], ◌∷◌, ◌++◌, length, drop, map, get_or, set, Option, Some, None, refl, subst, sym, ap, ◌∙◌, inl, inr, eqb, false, arith}
use Rattle.std.specs.Prelude.{option_map, IsSome, IfSome}
use Rattle.std.proofs.lemmas.Bool.{ne_eqb}
use Rattle.std.proofs.lemmas.Bool.Decides.{leb_tells}
use Rattle.std.proofs.lemmas.List.{length-set, length-map, get_or-set_same, get_or_past}
use Rattle.std.proofs.Math.Seq.{map-set_same}
use Rattle.core_machine.proofs.Terms.{Heap, Command, Step, put, InTable, FoundPointsWithin, address_of, word_after, Seat, absent_seat, Move, next_move, due_step, seat_after_due}
use Rattle.core_machine.proofs.Terms.{seat_at, found_by, MayBegin, MayBeginInner, after_begin, after_inner_begin, Begins, BeginsInner, Steps, state_after, state_after_due}
use Rattle.core_machine.proofs.Terms.{SeatWithRoom, MachineValue, Can, spare_of, forgotten_of, log_of, KeepsRoom, SpendsRoom, IsMachine}
use Rattle.core_machine.specs.machine.Value.{due_of, event_of, recent_of}
use Rattle.heap_model.specs.declared.entry.Entry.{Entry}
use Rattle.heap_model.specs.declared.calls.collect.Inner.{Inner}
use Rattle.core_machine.specs.collector.Collector.{Collector}
use Rattle.core_machine.proofs.machine_lemmas.Runs.{event_leaves_machine, due_word_in_table}
use Rattle.core_machine.proofs.machine_lemmas.Parties.{state_of, value_of, seat_is_partys, seats_after_party_set, party_numbers_stay, seat_number_is_partys, set_party_has_own_number, other_party_keeps_number}

-- a party with a step due is a seat
pub due_party_is_seat : (heap : Heap) (words : List ℕ) (parties : List SeatWithRoom) (collector : Collector) (number : ℕ) (step : Step)
    → due_step heap number (seat_at (state_of words parties collector) number) ≡ Some step → number < length parties
due_party_is_seat heap words parties collector number step due =
    elim (leb_tells (suc number) (length parties)) as (λ _. number < length parties) [
      | inl within ↦ within.1
      | inr past ↦ absurd (none (get_or_past (map (λ s. s.seat) parties) number absent_seat (omega (arith, length-map parties (λ (s : SeatWithRoom). s.seat), past.1))))
    ]
  where
    none : seat_at (state_of words parties collector) number ≡ absent_seat → ⊥
    none is = let e = rw is at due in cc

-- the due step touches a word of the table
pub due_step_in_table : (heap : Heap) (words : List ℕ) (parties : List SeatWithRoom) (collector : Collector) (number : ℕ) (step : Step) → IsMachine heap (state_of words parties collector)
    → due_step heap number (seat_at (state_of words parties collector) number) ≡ Some step → InTable heap (address_of step)
due_step_in_table heap words parties collector number step machine due =
    let within = due_party_is_seat heap words parties collector number step due in
    (due_word_in_table heap (state_of words parties collector) number step machine (omega (arith, within, length-map parties (λ (s : SeatWithRoom). s.seat))) due).0

-- a step is due of who has a move
due_some : (move : Option Move) (step : Step) → option_map (λ m. m.step) move ≡ Some step → IsSome move
due_some None step due = cc
due_some (Some move) step due = refl

-- a seat is one of the parties
pub seat_is_a_party : (parties : List SeatWithRoom) {number : ℕ} → number < length (map (λ (s : SeatWithRoom). s.seat) parties) → number < length parties
seat_is_a_party parties within = omega (arith, within, length-map parties (λ (s : SeatWithRoom). s.seat))

module _ (heap : Heap) (words : List ℕ) (parties : List SeatWithRoom) (collector : Collector) (room gone number : ℕ) (party next : SeatWithRoom)
    (within : number < length parties) (here : party ≡ get_or parties number party) where
  -- the seat that acts
  the_seat : seat_at (state_of words parties collector) number ≡ party.seat
  the_seat = seat_is_partys words parties collector number party within ∙ sym (ap (λ (s : SeatWithRoom). s.seat) here)

  seat_within : number < length (map (λ s. s.seat) parties)
  seat_within = omega (arith, within, length-map parties (λ (s : SeatWithRoom). s.seat))

  -- its party may begin what it may
  pub party_may_begin : (command : Command) → MayBegin (seat_at (state_of words parties collector) number) command → MayBegin party.seat command
  party_may_begin command may = subst (λ (s : Seat). MayBegin s command) the_seat may

  begin_state : (command : Command) → next.seat ≡ after_begin heap party.seat command
      → state_of words (set parties number next) collector ≡ state_after heap (state_of words parties collector) (Begins number command)
  begin_state command is =
      let seats = seats_after_party_set parties number next (after_begin heap (seat_at (state_of words parties collector) number) command) (is ∙ ap (λ (s : Seat). after_begin heap s command) (sym the_seat)) in
      rw seats refl

  pub begin_leaves_machine : (command : Command) → MayBegin (seat_at (state_of words parties collector) number) command → next.seat ≡ after_begin heap party.seat command
      → IsMachine heap (state_of words parties collector) → IsMachine heap (state_of words (set parties number next) collector)
  begin_leaves_machine command may is machine =
      let state = begin_state command is in
      subst (IsMachine heap) (sym state) (event_leaves_machine heap (state_of words parties collector) (Begins number command) machine (seat_within, may))

  pub begin_leaves_value : (command : Command) → next.seat ≡ after_begin heap party.seat command → next.spare ≡ party.spare → next.forgotten ≡ party.forgotten
      → value_of heap words (set parties number next) collector room gone
      ≡ record (value_of heap words parties collector room gone) { state = state_after heap (state_of words parties collector) (Begins number command) }
  begin_leaves_value command is same still =
      let seats = seats_after_party_set parties number next (after_begin heap (seat_at (state_of words parties collector) number) command) (is ∙ ap (λ (s : Seat). after_begin heap s command) (sym the_seat)) in
      let spares = party_numbers_stay (λ s. s.spare) parties number next party (same ∙ ap (λ (s : SeatWithRoom). s.spare) here) in
      let forgot = party_numbers_stay (λ s. s.forgotten) parties number next party (still ∙ ap (λ (s : SeatWithRoom). s.forgotten) here) in
      rw (seats, spares, forgot) refl

  inner_state : (inner : Inner) → next.seat ≡ after_inner_begin party.seat inner
      → state_of words (set parties number next) collector ≡ state_after heap (state_of words parties collector) (BeginsInner number inner)
  inner_state inner is =
      let seats = seats_after_party_set parties number next (after_inner_begin (seat_at (state_of words parties collector) number) inner) (is ∙ ap (λ (s : Seat). after_inner_begin s inner) (sym the_seat)) in
      rw seats refl

  pub inner_begin_leaves_machine : (inner : Inner) → MayBeginInner heap number (seat_at (state_of words parties collector) number) inner → next.seat ≡ after_inner_begin party.seat inner
      → IsMachine heap (state_of words parties collector) → IsMachine heap (state_of words (set parties number next) collector)
  inner_begin_leaves_machine inner may is machine =
      let state = inner_state inner is in
      subst (IsMachine heap) (sym state) (event_leaves_machine heap (state_of words parties collector) (BeginsInner number inner) machine (seat_within, may))

  pub inner_begin_leaves_value : (inner : Inner) → next.seat ≡ after_inner_begin party.seat inner → next.spare ≡ party.spare → next.forgotten ≡ party.forgotten
      → value_of heap words (set parties number next) collector room gone
      ≡ record (value_of heap words parties collector room gone) { state = state_after heap (state_of words parties collector) (BeginsInner number inner) }
  inner_begin_leaves_value inner is same still =
      let seats = seats_after_party_set parties number next (after_inner_begin (seat_at (state_of words parties collector) number) inner) (is ∙ ap (λ (s : Seat). after_inner_begin s inner) (sym the_seat)) in
      let spares = party_numbers_stay (λ s. s.spare) parties number next party (same ∙ ap (λ (s : SeatWithRoom). s.spare) here) in
      let forgot = party_numbers_stay (λ s. s.forgotten) parties number next party (still ∙ ap (λ (s : SeatWithRoom). s.forgotten) here) in
      rw (seats, spares, forgot) refl

  step_state_by : (step : Step) (seat : Seat) (move : Option Move) → option_map (λ m. m.step) move ≡ Some step
      → next.seat ≡ seat_after_due seat move (found_by heap (state_of words parties collector) step)
      → state_of (put heap words (address_of step) (word_after step (found_by heap (state_of words parties collector) step))) (set parties number next) collector
      ≡ state_after_due heap (state_of words parties collector) number move
  step_state_by step seat None due is = cc
  step_state_by step seat (Some move) due is =
      let same : step ≡ move.step = cc in
      let seats = seats_after_party_set parties number next _ is in
      rw (seats, same) refl

  pub step_state : (step : Step) → due_step heap number (seat_at (state_of words parties collector) number) ≡ Some step
      → next.seat ≡ seat_after_due party.seat (next_move heap number party.seat) (found_by heap (state_of words parties collector) step)
      → state_of (put heap words (address_of step) (word_after step (found_by heap (state_of words parties collector) step))) (set parties number next) collector
      ≡ state_after heap (state_of words parties collector) (Steps number)
  step_state step due is =
      step_state_by step (seat_at (state_of words parties collector) number) (next_move heap number (seat_at (state_of words parties collector) number)) due
      (subst (λ (s : Seat). next.seat ≡ seat_after_due s (next_move heap number s) (found_by heap (state_of words parties collector) step)) (sym the_seat) is)

  -- the same, where the word found and the words after are told by equations
  pub step_leaves_state : (step : Step) (found : ℕ) (now : List ℕ) → due_step heap number (seat_at (state_of words parties collector) number) ≡ Some step
      → found ≡ found_by heap (state_of words parties collector) step → now ≡ put heap words (address_of step) (word_after step found)
      → next.seat ≡ seat_after_due party.seat (next_move heap number party.seat) found
      → state_of now (set parties number next) collector ≡ state_after heap (state_of words parties collector) (Steps number)
  step_leaves_state step found now due is now_is moved_ =
      rw (now_is, is) (step_state step due (subst (λ (n : ℕ). next.seat ≡ seat_after_due party.seat (next_move heap number party.seat) n) is moved_))

  -- the due step finds a word that leads within the heap
  pub step_finds_within_heap : (step : Step) (found : ℕ) → IsMachine heap (state_of words parties collector) → due_step heap number (seat_at (state_of words parties collector) number) ≡ Some step
      → found ≡ found_by heap (state_of words parties collector) step → IfSome (next_move heap number party.seat) (λ m. FoundPointsWithin heap (address_of m.step) found)
  step_finds_within_heap step found machine due is =
      let led = (due_word_in_table heap (state_of words parties collector) number step machine seat_within due).1 in
      subst (λ (s : Seat). IfSome (next_move heap number s) (λ m. FoundPointsWithin heap (address_of m.step) found)) the_seat
      (subst (λ (w : ℕ). IfSome (next_move heap number (seat_at (state_of words parties collector) number)) (λ m. FoundPointsWithin heap (address_of m.step) w)) (sym is) led)

  -- so the step leaves a machine
  pub step_leaves_machine : (step : Step) (now : List ℕ) → due_step heap number (seat_at (state_of words parties collector) number) ≡ Some step
      → state_of now (set parties number next) collector ≡ state_after heap (state_of words parties collector) (Steps number)
      → IsMachine heap (state_of words parties collector) → IsMachine heap (state_of now (set parties number next) collector)
  step_leaves_machine step now due state machine =
      subst (IsMachine heap) (sym state) (event_leaves_machine heap (state_of words parties collector) (Steps number) machine (due_some (next_move heap number (seat_at (state_of words parties collector) number)) step due))

  -- another party's room stays
  pub other_spare_stays : (now : List ℕ) (other : ℕ) → other ≢ number
      → spare_of (value_of heap now (set parties number next) collector room gone) other ≡ spare_of (value_of heap words parties collector room gone) other
  other_spare_stays now other apart = other_party_keeps_number (λ s. s.spare) parties room number next other within apart

  -- the party's own room
  pub own_spare_is_partys : (now : List ℕ) → spare_of (value_of heap now (set parties number next) collector room gone) number ≡ next.spare
  own_spare_is_partys now = set_party_has_own_number (λ s. s.spare) parties room number next within

  pub spare_was_partys : spare_of (value_of heap words parties collector room gone) number ≡ party.spare
  spare_was_partys = seat_number_is_partys (λ s. s.spare) parties room number party within ∙ sym (ap (λ (s : SeatWithRoom). s.spare) here)

  -- and what was forgotten of its entries
  forgotten_before : forgotten_of (value_of heap words parties collector room gone) number ≡ party.forgotten
  forgotten_before = seat_number_is_partys (λ s. s.forgotten) parties gone number party within ∙ sym (ap (λ (s : SeatWithRoom). s.forgotten) here)

  log_was_partys_list : log_of (value_of heap words parties collector room gone) number ≡ party.seat.mine
  log_was_partys_list =
      let long = length-map parties (λ (s : SeatWithRoom). s.seat) in
      let seat_ : eqb number (length (map (λ s. s.seat) parties)) ≡ false = ne_eqb number (length (map (λ s. s.seat) parties)) (λ e. absurd (omega arith)) in
      rw seat_ (ap (λ (s : Seat). s.mine) the_seat)

  -- a party that forgets has forgotten as many of them as its log says
  pub own_forgotten_are_partys : (forgets : ℕ → ℕ → ℕ) → next.forgotten ≡ forgets party.forgotten (length party.seat.mine)
      → forgotten_of (value_of heap words (set parties number next) collector room gone) number
      ≡ forgets (forgotten_of (value_of heap words parties collector room gone) number) (length (log_of (value_of heap words parties collector room gone) number))
  own_forgotten_are_partys forgets is =
      set_party_has_own_number (λ s. s.forgotten) parties gone number next within ∙ is ∙ ap (λ (n : ℕ). forgets n (length party.seat.mine)) (sym forgotten_before)
      ∙ ap (λ (l : List Entry). forgets (forgotten_of (value_of heap words parties collector room gone) number) (length l)) (sym log_was_partys_list)

  -- and what is shown of them
  pub shown_before : (value : MachineValue) (told : List Entry) → value_of heap words parties collector room gone ≡ value → told ≡ drop party.forgotten party.seat.mine
      → party.forgotten ≤ length party.seat.mine → (told ≡ recent_of value number) × (forgotten_of value number ≤ length (log_of value number))
  shown_before value told view is some = rw (← view, log_was_partys_list, forgotten_before) (is, some)

  log_here : (now : List ℕ) → log_of (value_of heap now (set parties number next) collector room gone) number ≡ next.seat.mine
  log_here now =
      let long = length-map (set parties number next) (λ (s : SeatWithRoom). s.seat) in
      let same = length-set parties number next in
      let seat_ : eqb number (length (map (λ s. s.seat) (set parties number next))) ≡ false = ne_eqb number (length (map (λ s. s.seat) (set parties number next))) (λ e. absurd (omega arith)) in
      rw seat_ (ap (λ (s : Seat). s.mine) (seat_is_partys now (set parties number next) collector number party (omega arith) ∙ ap (λ (s : SeatWithRoom). s.seat) (get_or-set_same parties number next party within)))

  pub step_spends_room : (now : List ℕ) → next.forgotten ≡ party.forgotten → KeepsRoom party next
      → SpendsRoom (value_of heap words parties collector room gone) (value_of heap now (set parties number next) collector room gone) number
  step_spends_room now same own = record {
    forgotten = ap (λ (l : List ℕ). l ++ gone ∷ []) (party_numbers_stay (λ s. s.forgotten) parties number next party (same ∙ ap (λ (s : SeatWithRoom). s.forgotten) here));
    own = rw (spare_was_partys, log_was_partys_list, own_spare_is_partys now, log_here now) own.0;
    no_more = rw (spare_was_partys, own_spare_is_partys now) own.1;
    others = λ other apart. other_spare_stays now other apart;
  }

  -- a party that got room is as it was
  pub room_leaves_state : next.seat ≡ party.seat → state_of words (set parties number next) collector ≡ state_of words parties collector
  room_leaves_state same =
      let seats = map-set_same (λ (s : SeatWithRoom). s.seat) parties number next party (same ∙ ap (λ (s : SeatWithRoom). s.seat) here) in
      rw seats refl

  pub room_leaves_machine : next.seat ≡ party.seat → IsMachine heap (state_of words parties collector) → IsMachine heap (state_of words (set parties number next) collector)
  room_leaves_machine same machine = subst (IsMachine heap) (sym (room_leaves_state same)) machine

-- the next step of a party that is a seat is that seat's
module _ (heap : Heap) (words : List ℕ) (parties : List SeatWithRoom) (collector : Collector) (room gone : ℕ) (value : MachineValue) (number : ℕ) where
  pub not_last : value_of heap words parties collector room gone ≡ value → number < length parties → eqb number (length value.state.seats) ≡ false
  not_last view within =
      let long = length-map parties (λ (s : SeatWithRoom). s.seat) in
      rw (← view) (ne_eqb number (length (map (λ s. s.seat) parties)) (λ e. absurd (omega arith)))

  pub seat_event : value_of heap words parties collector room gone ≡ value → number < length parties → event_of value.state number ≡ Steps number
  seat_event view within = rw (not_last view within) refl

  pub seat_can : (step : Step) → value_of heap words parties collector room gone ≡ value → number < length parties → due_of value.heap value.state number ≡ Some step
      → Can value.heap value.state (event_of value.state number)
  seat_can step view within due =
      rw (seat_event view within) (due_some (next_move value.heap number (seat_at value.state number)) step (rw (not_last view within) at due))
