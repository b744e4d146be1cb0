-- How often a seat has found another one behind never falls.
use Rattle.std.specs.Prelude.{if◌then◌else◌, nat_lt}
use Rattle.std.proofs.Common.{◌≡◌, ℕ, zero, suc, ◌+◌, ◌^◌, ◌<◌, ◌≤◌, ◌==◌, Bool, true, false, Option, Some, None, length, replicate, refl, sym, ap, subst, ◌∙◌, arith}
use Rattle.std.proofs.lemmas.List.{get_or-set_same, length-set}
use Rattle.heap_model.specs.declared.command.Command.{Command}
use Rattle.heap_model.specs.declared.command.Command.TheVariants as commands
use Rattle.heap_model.specs.declared.heap.Heap.{Heap}
use Rattle.heap_model.specs.declared.reply.Reply.{Reply}
use Rattle.core_machine.specs.declared.point.Access.TheVariants.{LoadingMeta, Walking, LoadingSpot, Indexing, Getting, Naming, LoadingOld, ShadingOld, ShadingNew, Swapping, ShadingSide, Replacing}
use Rattle.core_machine.specs.declared.point.Leaving.TheVariants.{Emptying, Parting}
use Rattle.core_machine.specs.declared.point.Making.TheVariants.{Granting, Withdrawing, Gathering, GivingBack, Refusing, Placing, Listing, Storing, Bearing}
use Rattle.core_machine.specs.declared.point.Point.{Point}
use Rattle.core_machine.specs.declared.point.Point.TheVariants as points
use Rattle.core_machine.specs.declared.point.Polling.TheVariants as polling
use Rattle.core_machine.specs.declared.point.Side.TheVariants as sides
use Rattle.core_machine.specs.machine.Calls.{PlaysCall}
use Rattle.core_machine.specs.machine.Machine.{State, seat_at, found_by, Steps, Begins, after_begin, state_after_due, state_after, state_after_all}
use Rattle.core_machine.specs.Moves.{Move, move_at, is_last_birth, last_birth_move, birth_move, refusal_looks}
use Rattle.heap_words.specs.Loaded.{head_of, array_length_of}
use Rattle.core_machine.specs.seat.Access.{meta_reply_of, after_meta, after_get, after_old_load, after_replace}
use Rattle.core_machine.specs.seat.AccessMoves.{old_word_of}
use Rattle.core_machine.specs.seat.Handshake.{answer_next, polling_over}
use Rattle.heap_model.specs.declared.behind.Behind.{Behind}
use Rattle.core_machine.specs.declared.seat.looks.Looks.{Looks}
use Rattle.core_machine.specs.seat.Looks.{found_behind}
use Rattle.core_machine.specs.seat.Seat.{Seat, with_seen, after_call, absent_seat}
use Rattle.core_rule.proofs.looks.Growth.{IsElsewhere}
use Rattle.core_rule.proofs.looks.Ways.{StaysFound, stays_found_after_claim, stays_found_after_budget, stays_found_after_walk, stays_found_after_length, stays_found_after_begin}

-- the seat stands in no inner call, has found another one behind as often at least, and has no first look where it had none
pub record FindsOn (seat now : Seat) : Type 0 where
  pub elsewhere : IsElsewhere now.point
  pub finds : seat.looks.waits ≤ now.looks.waits
  pub fresh : seat.looks.first ≡ None → now.looks.first ≡ None

on_then : (one two three : Seat) → FindsOn one two → FindsOn two three → FindsOn one three
on_then one two three first more = record { elsewhere = more.elsewhere; finds = omega (arith, first.finds, more.finds); fresh = λ none. more.fresh (first.fresh none) }

stays_on : (seat now : Seat) → StaysFound seat now → FindsOn seat now
stays_on seat now stays = record {
  elsewhere = stays.elsewhere;
  finds = omega (arith, ap (λ (l : Looks). l.waits) stays.looks);
  fresh = λ none. ap (λ (l : Looks). l.first) stays.looks ∙ none;
}

-- it goes on
same_on : (seat now : Seat) → IsElsewhere now.point → now.looks.waits ≡ seat.looks.waits → now.looks.first ≡ seat.looks.first → FindsOn seat now
same_on seat now elsewhere waits first = record { elsewhere = elsewhere; finds = omega (arith, waits); fresh = λ none. first ∙ none }

-- or has told its reply
over_on : (seat now : Seat) → IsElsewhere now.point → now.looks.waits ≡ seat.looks.waits → now.looks.first ≡ None → FindsOn seat now
over_on seat now elsewhere waits first = record { elsewhere = elsewhere; finds = omega (arith, waits); fresh = λ none. first }

-- so it is after a move
abbrev pub MoveFindsOn : Seat → Option Move → Type 0
MoveFindsOn seat None = Unit {0}
MoveFindsOn seat (Some move) = (found : ℕ) → FindsOn seat (move.told found)

one_more_on : (b : Bool) (n : ℕ) → n ≤ (if b then n + 1 else n)
one_more_on true n = omega arith
one_more_on false n = omega arith

-- so it is where another seat was compared
pub finds_grow_by_compare : (b : Bool) (found : Behind) (looks : Looks) → looks.waits ≤ (if b then found_behind found looks else record looks { behind = None }).waits
finds_grow_by_compare true found looks = one_more_on (nat_lt (looks.waits + 1) (2 ^ 64)) looks.waits
finds_grow_by_compare false found looks = omega arith

module _ (heap : Heap) (number : ℕ) (seat : Seat) (here : IsElsewhere seat.point) where
  bears : (last : Bool) → MoveFindsOn seat (Some (if last then last_birth_move number seat else birth_move seat))
  bears true = λ found. over_on seat _ tt refl refl
  bears false = λ found. same_on seat _ here refl refl

  metas : (found : ℕ) (reply : Option Reply) → FindsOn seat (after_meta seat found reply)
  metas found None = stays_on seat _ (stays_found_after_length seat found (array_length_of found))
  metas found (Some reply) = over_on seat _ tt refl refl

  gets : (found : ℕ) (head : Option ℕ) → FindsOn seat (after_get seat found head)
  gets found None = over_on seat _ tt refl refl
  gets found (Some head) = same_on seat _ tt refl refl

  olds : (found : ℕ) (head : Option ℕ) → FindsOn seat (after_old_load (record seat { loaded = found }) head)
  olds found None = same_on seat _ tt refl refl
  olds found (Some head) = same_on seat _ tt refl refl

  compares : (same : Bool) → FindsOn seat (after_replace seat same)
  compares true = over_on seat _ tt refl refl
  compares false = over_on seat _ tt refl refl

  over : (command : Command) (answered : ℕ) → FindsOn seat (polling_over command (record seat { answered = answered }))
  over commands.Collect answered = same_on seat _ tt refl refl
  over _ answered = over_on seat _ tt refl refl

  ends : (command : Command) (p : ℕ) → FindsOn seat (polling_over command (with_seen p seat))
  ends commands.Collect p = same_on seat _ tt refl refl
  ends _ p = over_on seat _ tt refl refl

  polls : (b : Bool) (p : ℕ) → FindsOn seat (if b then polling_over seat.command (with_seen p seat) else answer_next (record (with_seen p seat) { asked = p }))
  polls true p = ends seat.command p
  polls false p = same_on seat _ tt refl refl

  refuses : (command : Command) (found : ℕ) → FindsOn seat (after_call (record seat { looks = refusal_looks command found seat.looks }))
  refuses (commands.Array d cells) found = over_on seat _ tt refl refl
  refuses _ found = over_on seat _ tt refl refl

  moves_on : (point : Point) → IsElsewhere point → MoveFindsOn seat (move_at heap number seat point)
  moves_on points.Idle there = tt
  moves_on (points.Making Granting) there = λ found. stays_on seat _ (stays_found_after_budget heap seat found)
  moves_on (points.Making Withdrawing) there = λ found. over_on seat _ tt refl refl
  moves_on (points.Making Gathering) there = λ found. stays_on seat _ (stays_found_after_claim heap seat found)
  moves_on (points.Making GivingBack) there = λ found. same_on seat _ tt refl refl
  moves_on (points.Making Refusing) there = λ found. refuses seat.command found
  moves_on (points.Making Placing) there = λ found. same_on seat _ tt refl refl
  moves_on (points.Making Listing) there = λ found. same_on seat _ tt refl refl
  moves_on (points.Making Storing) there = λ found. same_on seat _ tt refl refl
  moves_on (points.Making Bearing) there = bears (is_last_birth seat)
  moves_on points.Local there = λ found. over_on seat _ tt refl refl
  moves_on (points.Access LoadingMeta) there = λ found. metas found (meta_reply_of seat.command found)
  moves_on (points.Access Walking) there = λ found. stays_on seat _ (stays_found_after_walk seat found)
  moves_on (points.Access LoadingSpot) there = λ found. same_on seat _ tt refl refl
  moves_on (points.Access Indexing) there = λ found. same_on seat _ tt refl refl
  moves_on (points.Access Getting) there = λ found. gets found (head_of found)
  moves_on (points.Access Naming) there = λ found. over_on seat _ tt refl refl
  moves_on (points.Access LoadingOld) there = λ found. olds found (head_of found)
  moves_on (points.Access ShadingOld) there = λ found. same_on seat _ tt refl refl
  moves_on (points.Access ShadingNew) there = λ found. same_on seat _ tt refl refl
  moves_on (points.Access Swapping) there = λ found. over_on seat _ tt refl refl
  moves_on (points.Access (ShadingSide sides.Expected)) there = λ found. same_on seat _ tt refl refl
  moves_on (points.Access (ShadingSide sides.New)) there = λ found. same_on seat _ tt refl refl
  moves_on (points.Access Replacing) there = λ found. compares (found == old_word_of seat)
  moves_on (points.Polling polling.Asking) there = λ found. polls (found == seat.answered) found
  moves_on (points.Polling polling.Shading) there = λ found. same_on seat _ tt refl refl
  moves_on (points.Polling polling.Answering) there = λ found. over seat.command seat.asked
  moves_on (points.Collecting point) there = absurd there
  moves_on (points.Leaving Emptying) there = λ found. same_on seat _ tt refl refl
  moves_on (points.Leaving Parting) there = λ found. over_on seat _ tt refl refl

-- by a due move
due_on : (heap : Heap) (state : State) (number : ℕ) → number < length state.seats → IsElsewhere (seat_at state number).point → (move : Option Move) → MoveFindsOn (seat_at state number) move
    → FindsOn (seat_at state number) (seat_at (state_after_due heap state number move) number)
due_on heap state number within here None on = same_on (seat_at state number) (seat_at state number) here refl refl
due_on heap state number within here (Some move) on =
    subst (λ (s : Seat). FindsOn (seat_at state number) s) (sym (get_or-set_same state.seats number _ absent_seat within))
    (let told = on (found_by heap state move.step) in record { elsewhere = told.elsewhere; finds = told.finds; fresh = told.fresh })

due_seats : (heap : Heap) (state : State) (number : ℕ) (move : Option Move) → length (state_after_due heap state number move).seats ≡ length state.seats
due_seats heap state number None = refl
due_seats heap state number (Some move) = length-set state.seats number _

-- by steps
steps_on : (heap : Heap) (number steps : ℕ) (state : State) → number < length state.seats → IsElsewhere (seat_at state number).point
    → FindsOn (seat_at state number) (seat_at (state_after_all heap state (replicate steps (Steps number))) number)
steps_on heap number zero state within here = same_on (seat_at state number) (seat_at state number) here refl refl
steps_on heap number (suc steps) state within here =
    let seat : Seat = seat_at state number in
    let one = due_on heap state number within here (move_at heap number seat seat.point) (moves_on heap number seat here seat.point here) in
    on_then seat _ _ one (steps_on heap number steps (state_after heap state (Steps number)) (omega (arith, within, due_seats heap state number (move_at heap number seat seat.point))) one.elsewhere)

-- by a call
pub finds_grow_by_call : (heap : Heap) (old new : State) (number : ℕ) (command : Command) (reply : Reply) → PlaysCall heap old new number command reply → FindsOn (seat_at old number) (seat_at new number)
finds_grow_by_call heap old new number command reply call =
    let seat : Seat = seat_at old number in
    let within : number < length old.seats = call.can.0.0 in
    let begun : State = state_after heap old (Begins number command) in
    let is : seat_at begun number ≡ after_begin heap seat command = get_or-set_same old.seats number _ absent_seat within in
    let first : FindsOn seat (seat_at begun number) = subst (λ (s : Seat). FindsOn seat s) (sym is) (stays_on seat _ (stays_found_after_begin heap seat command call.can.0.1.idle)) in
    let rest = steps_on heap number call.steps begun (omega (arith, within, length-set old.seats number (after_begin heap seat command))) first.elsewhere in
    subst (λ (t : State). FindsOn seat (seat_at t number)) (sym call.ends) (on_then seat _ _ first rest)
