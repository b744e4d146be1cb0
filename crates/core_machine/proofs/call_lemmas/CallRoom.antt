-- A call that is made by itself has room for its entries, and comes to an end.
use Rattle.std.proofs.Common.{◌≡◌, ℕ, ◌+◌, ◌*◌, ◌<◌, ◌≤◌, eqb, false, length, Option, Some, None, refl, sym, ap, subst, ◌∙◌, length-append, arith}
use Rattle.std.specs.Prelude.{IsSome, IfSome, option_map}
use Rattle.core_machine.proofs.Terms.{Step, Heap, Command, Entry, Seat, need, Move, next_move, due_step, seat_after, State, seat_at, found_by, after_begin, Begins, Steps, Can}
use Rattle.core_machine.proofs.Terms.{state_after, state_after_due, MachineValue, IsMachine, log_of, spare_of, SpendsRoom, owes, steps_left}
use Rattle.std.proofs.lemmas.Bool.{ne_eqb}
use Rattle.std.proofs.lemmas.List.{length-set}
use Rattle.heap_model.specs.account.Space.{need_of}
use Rattle.core_machine.proofs.moves.Standing.{MoveStands}
use Rattle.core_machine.proofs.machine_lemmas.Parties.{set_seat_is_read}
use Rattle.core_machine.proofs.machine_lemmas.Runs.{event_leaves_machine, each_move_stands}
use Rattle.core_machine.proofs.moves.{begin_stands}

-- a seat's entries are those of its party
pub seat_log_is_own_list : (machine : MachineValue) (number : ℕ) → number < length machine.state.seats → log_of machine number ≡ (seat_at machine.state number).mine
seat_log_is_own_list machine number within =
    let other : eqb number (length machine.state.seats) ≡ false = ne_eqb number (length machine.state.seats) (λ e. absurd (omega arith)) in
    rw other refl

-- what a move leaves of room and steps, where its entries are the party's new ones
room_by : (heap : Heap) (now : State) (number : ℕ) (move : Option Move) (step : Step) (seat : Seat) → number < length now.seats
    → option_map (λ m. m.step) move ≡ Some step → seat ≡ seat_at (state_after_due heap now number move) number
    → IfSome move (MoveStands heap number (seat_at now number) (seat_at now number).point)
    → (steps_left heap seat < steps_left heap (seat_at now number)) × ((added : ℕ) × (owes seat + added ≤ owes (seat_at now number)) × (length seat.mine ≡ length (seat_at now number).mine + added))
room_by heap now number None step seat within due is stands = cc
room_by heap now number (Some m) step seat within due is stands =
    let found = found_by heap now m.step in
    let here : seat ≡ seat_after m found = is ∙ set_seat_is_read now.seats number (seat_after m found) within in
    let long = length-append (m.told found).mine (m.adds found) in
    let near = stands.near found in
    rw here (near.fewer, (length (m.adds found), near.paid, omega (arith, ap (length {A = Entry}) (stands.adds now).kept)))

pub step_leaves_room : (old new : MachineValue) (number : ℕ) (step : Step) → IsMachine old.heap old.state → number < length old.state.seats
    → due_step old.heap number (seat_at old.state number) ≡ Some step → new.state ≡ state_after old.heap old.state (Steps number) → SpendsRoom old new number
    → owes (seat_at old.state number) + 2 ≤ spare_of old number
    → (steps_left old.heap (seat_at new.state number) < steps_left old.heap (seat_at old.state number)) × (owes (seat_at new.state number) + 2 ≤ spare_of new number)
step_leaves_room old new number step machine within due is spends room =
    let seat = seat_at old.state number in
    let move = next_move old.heap number seat in
    let by = room_by old.heap old.state number move step (seat_at new.state number) within due
    (ap (λ (s : State). seat_at s number) is) (each_move_stands old.heap old.state number machine within) in
    let some : IsSome move = some_due move step due in
    let after_ = event_leaves_machine old.heap old.state (Steps number) machine some in
    let still : number < length new.state.seats = omega (arith, ap (λ (s : State). length s.seats) is, after_.seated, machine.seated) in
    let before_log = ap (length {A = Entry}) (seat_log_is_own_list old number within) in
    let after_log = ap (length {A = Entry}) (seat_log_is_own_list new number still) in
    (by.0, omega (arith, spends.own, by.1.1, by.1.2))
  where
    some_due : (move : Option Move) (step : Step) → option_map (λ m. m.step) move ≡ Some step → IsSome move
    some_due None step e = cc
    some_due (Some m) step e = refl

-- room that is spent step by step
pub spends_room_in_turn : (first second third : MachineValue) (number : ℕ) → SpendsRoom first second number → SpendsRoom second third number → SpendsRoom first third number
spends_room_in_turn first second third number one two = record {
  forgotten = two.forgotten ∙ one.forgotten;
  own = omega (arith, one.own, two.own);
  no_more = omega (arith, one.no_more, two.no_more);
  others = λ other apart. two.others other apart ∙ one.others other apart;
}

-- a begin spends none
pub begin_spends_room : (old new : MachineValue) (number : ℕ) (command : Command) → IsMachine old.heap old.state → Can old.heap old.state (Begins number command)
    → new ≡ record old { state = state_after old.heap old.state (Begins number command) } → SpendsRoom old new number
begin_spends_room old new number command machine can is =
    let within = can.0 in
    let seat = seat_at old.state number in
    let begun_ = after_begin old.heap seat command in
    let now : MachineValue = record old { state = state_after old.heap old.state (Begins number command) } in
    let here : seat_at now.state number ≡ begun_ = set_seat_is_read old.state.seats number begun_ within in
    let still : number < length now.state.seats = omega (arith, within, length-set old.state.seats number begun_) in
    let same : (log_of now number) ≡ (log_of old number) =
    seat_log_is_own_list now number still ∙ ap (λ (s : Seat). s.mine) here ∙ (begin_stands old.heap number seat command machine.limits (machine.fit number within) can.1).kept ∙ sym (seat_log_is_own_list old number within) in
    subst (λ (m : MachineValue). SpendsRoom old m number) (sym is) (record { forgotten = refl; own = omega (arith, ap (length {A = Entry}) same); no_more = omega arith; others = λ other apart. refl })

-- a call owes no more than twice its need and two when it is begun
pub room_begun : (heap : Heap) (old : State) (number : ℕ) (command : Command) → IsMachine heap old → Can heap old (Begins number command)
    → owes (seat_at (state_after heap old (Begins number command)) number) ≤ 2 * need_of command + 2
room_begun heap old number command machine can =
    let seat = seat_at old number in
    let begun_ = after_begin heap seat command in
    let here : seat_at (state_after heap old (Begins number command)) number ≡ begun_ = set_seat_is_read old.seats number begun_ can.0 in
    subst (λ (s : Seat). owes s ≤ 2 * need_of command + 2) (sym here)
    (begin_stands heap number seat command machine.limits (machine.fit number can.0) can.1).owed

-- a machine whose call has begun has room for it
pub begun_call_has_room : (old new : MachineValue) (number : ℕ) (command : Command) → IsMachine old.heap old.state → Can old.heap old.state (Begins number command)
    → new ≡ record old { state = state_after old.heap old.state (Begins number command) } → 2 * need_of command + 4 ≤ spare_of old number
    → owes (seat_at new.state number) + 2 ≤ spare_of new number
begun_call_has_room old new number command machine can is room =
    let owed = room_begun old.heap old.state number command machine can in
    let begun_ : MachineValue = record old { state = state_after old.heap old.state (Begins number command) } in
    subst (λ (v : MachineValue). owes (seat_at v.state number) + 2 ≤ spare_of v number) (sym is) (enough (owes (seat_at begun_.state number)) (need_of command) (spare_of old number) owed room)
  where
    enough : (owed need room : ℕ) → owed ≤ 2 * need + 2 → 2 * need + 4 ≤ room → owed + 2 ≤ room
    enough owed need room a b = omega arith
