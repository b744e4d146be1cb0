-- An inner call of a collect that is made by itself, from its begin to its end.
use Rattle.std.proofs.Common.{◌≡◌, ℕ, ◌+◌, ◌<◌, ◌≤◌, List, [], ◌++◌, length, Option, Some, None, refl, sym, ap, subst, ◌∙◌, append-nil, arith}
use Rattle.std.specs.Prelude.{IsSome, IfSome}
use Rattle.std.proofs.lemmas.List.{length-set, append_cancel_left}
use Rattle.heap_model.specs.declared.calls.collect.Inner.{Inner}
use Rattle.core_machine.proofs.Terms.{Entry, Heap, Step, State, seat_at, found_by, state_after_move, state_after_due, after_inner_begin, BeginsInner, Steps, Can, state_after}
use Rattle.core_machine.proofs.Terms.{entries, MachineValue, IsMachine, spare_of, SpendsRoom, Move, next_move, due_step, seat_after, Seat, call_over, kept_of, entries_awaited}
use Rattle.core_machine.proofs.Terms.{entries_awaited_at, owes}
use Rattle.core_machine.specs.machine.InnerCalls.{PlaysInner}
use Rattle.core_machine.proofs.call_lemmas.CallEnd.{StepsOn, steps_on_one_more, stepless_is_idle}
use Rattle.core_machine.proofs.call_lemmas.CallRoom.{seat_log_is_own_list}
use Rattle.core_machine.specs.calls.InnerStage.{OwnInnerStage}
use Rattle.core_machine.proofs.call_lemmas.Underway.{Underway, underway_after_begin, underway_after_step, more_listed, found_due}
use Rattle.core_machine.proofs.call_lemmas.InnerCalls.{IsOfStart, InnerAlone, InnerLeads, inner_move_leads, inner_alone_at_first, inner_leaves_seat_as_due}
use Rattle.core_machine.proofs.own_stages.Inner.{own_inner_leads, own_inner_begins, idle_inner_is_over}
use Rattle.core_machine.proofs.machine_lemmas.Parties.{set_seat_is_read}
use Rattle.core_machine.proofs.moves.Collect.{inner_stands}
use Rattle.core_machine.proofs.seat_lemmas.Aside.{idle_call_over_same}

-- an inner call is under way, and no other party made a step since its begin
pub record PlayingInner (heap : Heap) (old now : State) (number : ℕ) (inner : Inner) : Type 0 where
  pub told : List Entry
  pub under : Underway heap old now number (BeginsInner number inner) told
  pub listed : List Entry
  pub own : OwnInnerStage (IsOfStart heap old.words) number inner (seat_at old number) (seat_at now number) listed
  pub alone : InnerAlone old.words now.words (seat_at now number).point
  pub resting : call_over (seat_at old number) ≡ seat_at old number

pub playing_inner_after_begin : (heap : Heap) (old : State) (number : ℕ) (inner : Inner) → IsMachine heap old → Can heap old (BeginsInner number inner)
    → PlayingInner heap old (state_after heap old (BeginsInner number inner)) number inner
playing_inner_after_begin heap old number inner machine can =
    let seat = seat_at old number in
    let begun_ = after_inner_begin seat inner in
    let here : seat_at (state_after heap old (BeginsInner number inner)) number ≡ begun_ = set_seat_is_read old.seats number begun_ can.0 in
    let stands = inner_stands heap number seat inner (machine.fit number can.0) can.1 in
    record {
      told = [];
      under = underway_after_begin heap old number (BeginsInner number inner) begun_ machine can can.0 refl refl stands.kept (stands.awaits old.words);
      listed = [];
      own = subst (λ (s : Seat). OwnInnerStage (IsOfStart heap old.words) number inner seat s []) (sym here) (own_inner_begins (IsOfStart heap old.words) number seat inner);
      alone = subst (λ (s : Seat). InnerAlone old.words old.words s.point) (sym here) (inner_alone_at_first heap old.words number inner);
      resting = idle_call_over_same heap seat (machine.fit number can.0) can.1.idle;
    }

-- the stages that a due move leaves
record InnerBy (heap : Heap) (old now next : State) (number : ℕ) (inner : Inner) (listed : List Entry) : Type 0 where
  own : OwnInnerStage (IsOfStart heap old.words) number inner (seat_at old number) (seat_at next number) listed
  alone : InnerAlone old.words next.words (seat_at next number).point

inner_by : (heap : Heap) (old now : State) (number : ℕ) (inner : Inner) (playing : PlayingInner heap old now number inner) (move : Option Move) → next_move heap number (seat_at now number) ≡ move → IsSome move
    → IfSome move (InnerLeads heap old.words number now.words (seat_at now number))
    → InnerBy heap old now (state_after_due heap now number move) number inner (playing.listed ++ more_listed move (found_due heap now move))
inner_by heap old now number inner playing None is some leads = cc
inner_by heap old now number inner playing (Some m) is some leads =
    let found = found_by heap now m.step in
    let machine = playing.under.machine in
    let within = playing.under.within in
    let here : seat_at (state_after_move heap now number m) number ≡ seat_after m found = set_seat_is_read now.seats number (seat_after m found) within in
    record {
      own = subst (λ (s : Seat). OwnInnerStage (IsOfStart heap old.words) number inner (seat_at old number) s (playing.listed ++ m.adds found)) (sym here)
          (own_inner_leads (IsOfStart heap old.words) heap number inner (seat_at old number) (seat_at now number) playing.listed m found machine.limits
          (omega (arith, within, machine.seated, machine.limits.seats_fit)) (machine.fit number within) is leads.0 playing.own);
      alone = subst (λ (s : Seat). InnerAlone old.words (state_after_move heap now number m).words s.point) (sym here) leads.1;
    }

pub inner_more : (heap : Heap) (old now : State) (number : ℕ) (inner : Inner) → PlayingInner heap old now number inner → IsSome (next_move heap number (seat_at now number))
    → PlayingInner heap old (state_after heap now (Steps number)) number inner
inner_more heap old now number inner playing some =
    let seat = seat_at now number in
    let move = next_move heap number seat in
    let left = inner_by heap old now number inner playing move refl some
    (inner_move_leads heap old.words number now.words inner (kept_of (seat_at old number)) seat playing.listed seat.point playing.own.stage playing.alone) in
    record {
      told = playing.told ++ entries heap now (Steps number);
      under = underway_after_step heap old now number (BeginsInner number inner) playing.told playing.under some;
      listed = playing.listed ++ more_listed move (found_due heap now move);
      own = left.own;
      alone = left.alone;
      resting = playing.resting;
    }

-- a call without a step due is over
pub inner_was_played : (heap : Heap) (old now : State) (number : ℕ) (inner : Inner) → PlayingInner heap old now number inner → due_step heap number (seat_at now number) ≡ None
    → PlaysInner heap old now number inner
inner_was_played heap old now number inner playing none =
    let seat = seat_at now number in
    let idle = stepless_is_idle heap number seat none in
    let awaited : entries_awaited heap now.words number seat ≡ [] = ap (entries_awaited_at heap now.words number seat) idle in
    let told : playing.listed ≡ playing.told = append_cancel_left (seat_at old number).mine playing.listed playing.told
    (sym playing.own.mine ∙ sym (append-nil seat.mine) ∙ ap (λ (l : List Entry). seat.mine ++ l) (sym awaited) ∙ playing.under.mine) in
    let over = idle_inner_is_over (IsOfStart heap old.words) number inner (seat_at old number) seat playing.listed playing.own idle in
    let comes = inner_leaves_seat_as_due heap old.words number (seat_at old number) seat playing.listed playing.resting (idle_call_over_same heap seat (playing.under.machine.fit number playing.under.within) idle) playing.own.same playing.own.mine inner over in
    record { steps = playing.under.steps; can = playing.under.can; ends = playing.under.ends; shown = playing.under.shows ∙ sym told ∙ comes.1; seat = comes.0 }

-- a begin spends no room
pub inner_begin_spends_room : (old new : MachineValue) (number : ℕ) (inner : Inner) → Can old.heap old.state (BeginsInner number inner)
    → new ≡ record old { state = state_after old.heap old.state (BeginsInner number inner) } → SpendsRoom old new number
inner_begin_spends_room old new number inner can is =
    let seat = seat_at old.state number in
    let begun_ = after_inner_begin seat inner in
    let now : MachineValue = record old { state = state_after old.heap old.state (BeginsInner number inner) } in
    let here : seat_at now.state number ≡ begun_ = set_seat_is_read old.state.seats number begun_ can.0 in
    let still : number < length now.state.seats = omega (arith, can.0, length-set old.state.seats number begun_) in
    let before_log = ap (length {A = Entry}) (seat_log_is_own_list old number can.0) in
    let after_log = ap (length {A = Entry}) (seat_log_is_own_list now number still ∙ ap (λ (s : Seat). s.mine) here) in
    subst (λ (v : MachineValue). SpendsRoom old v number) (sym is) (record { forgotten = refl; own = omega (arith, before_log, after_log); no_more = omega arith; others = λ other apart. refl })

-- and leaves room for the call
pub begun_inner_has_room : (old new : MachineValue) (number : ℕ) (inner : Inner) → IsMachine old.heap old.state → Can old.heap old.state (BeginsInner number inner)
    → new ≡ record old { state = state_after old.heap old.state (BeginsInner number inner) } → 4 ≤ spare_of old number → owes (seat_at new.state number) + 2 ≤ spare_of new number
begun_inner_has_room old new number inner machine can is room =
    let seat = seat_at old.state number in
    let begun_ = after_inner_begin seat inner in
    let owed : owes (seat_at (state_after old.heap old.state (BeginsInner number inner)) number) ≤ 2 =
    subst (λ (s : Seat). owes s ≤ 2) (sym (set_seat_is_read old.state.seats number begun_ can.0)) (inner_stands old.heap number seat inner (machine.fit number can.0) can.1).owed in
    subst (λ (v : MachineValue). owes (seat_at v.state number) + 2 ≤ spare_of v number) (sym is) (omega (arith, owed, room))

-- so it goes on by one more step of it, with room for the rest
pub record InnerGoes (first now : MachineValue) (number : ℕ) (inner : Inner) : Type 0 where
  pub playing : PlayingInner first.heap first.state now.state number inner
  pub room : owes (seat_at now.state number) + 2 ≤ spare_of now number

pub inner_goes_by_step : {first old new : MachineValue} {number : ℕ} {inner : Inner} {step : Step} → InnerGoes first old number inner → old.heap ≡ first.heap → SpendsRoom first old number
    → due_step old.heap number (seat_at old.state number) ≡ Some step → new.heap ≡ old.heap → new.state ≡ state_after old.heap old.state (Steps number) → SpendsRoom old new number
    → StepsOn first old new number × InnerGoes first new number inner
inner_goes_by_step {first} {old} {new} {number} {inner} goes same spent due heap state spends =
    let on = steps_on_one_more goes.playing.under.machine goes.playing.under.within same due heap state spends goes.room spent in
    let playing = inner_more first.heap first.state old.state number inner goes.playing on.some in
    (on, record { playing = subst (λ (s : State). PlayingInner first.heap first.state s number inner) (sym on.state_is) playing; room = on.room })
