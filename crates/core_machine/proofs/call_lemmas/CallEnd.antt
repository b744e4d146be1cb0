-- What a call that is over comes to.
use Rattle.std.proofs.Common.{◌≡◌, ℕ, ◌+◌, ◌-◌, ◌^◌, ◌<◌, ◌≤◌, ◌⊎◌, List, [], ◌∷◌, ◌++◌, length, drop, get_or, Option, Some, None, refl, sym, ap, subst, ◌∙◌, inl, inr, length-append, append_assoc, append-nil, arith}
use Rattle.std.specs.Prelude.{IsSome, option_and_then, option_map}
use Rattle.core_machine.proofs.Terms.{Step, Address, Phase, at, InTable, Heap, Command, Entry, Said, Reply, Point, Seat, Move, move_at, next_move, due_step, State, seat_at, Steps}
use Rattle.core_machine.proofs.Terms.{state_after, Leave, IsBeside, IsPhaseNear, PlaysCall, CountsCall, TellsLeave, AnswersNew, AnswersArray, reply_of, last_reply_of}
use Rattle.core_machine.proofs.Terms.{IsPlaceRefusal, LeavesAll, MachineValue, IsMachine, log_of, recent_of, spare_of, forgotten_of, SpendsRoom, kept_of, tells_nothing, ComesFirst}
use Rattle.core_machine.proofs.Terms.{IsAnswered, entries_awaited_at, IsRecordCall, IsArrayCall, owes, steps_left}
use Rattle.std.specs.List.{AllByRecursion}
use Rattle.std.proofs.lemmas.List.{append_cancel_left, drop-append-le}
use Rattle.std.proofs.lemmas.Option.{slice_get-get_or}
use Rattle.std.proofs.Math.Seq.{get_or-append_seam}
use Rattle.heap_model.specs.calls.SeatCalls.{leave_entries}
use Rattle.core_machine.specs.declared.point.Point.TheVariants as points
use Rattle.core_machine.proofs.call_lemmas.Stages.{Answered, AloneStage}
use Rattle.core_machine.proofs.own_stages.End.{comes_before, own_answered, call_counts_by_reply, told_is_leave_entries}
use Rattle.core_machine.proofs.call_lemmas.Calling.{Playing, playing_after_step}
use Rattle.core_machine.proofs.call_lemmas.CallRoom.{seat_log_is_own_list, step_leaves_room, spends_room_in_turn}

-- a call that has no step due is over
idle_at : (heap : Heap) (number : ℕ) (seat : Seat) (point : Point) → option_map (λ m. m.step) (move_at heap number seat point) ≡ None → point ≡ points.Idle
idle_at heap number seat points.Idle none = refl
idle_at heap number seat (points.Making point) none = cc
idle_at heap number seat points.Local none = cc
idle_at heap number seat (points.Access point) none = cc
idle_at heap number seat (points.Polling point) none = cc
idle_at heap number seat (points.Collecting point) none = cc
idle_at heap number seat (points.Leaving point) none = cc

pub stepless_is_idle : (heap : Heap) (number : ℕ) (seat : Seat) → due_step heap number seat ≡ None → seat.point ≡ points.Idle
stepless_is_idle heap number seat none = idle_at heap number seat seat.point none

-- the call was answered
pub answered : (heap : Heap) (old now : State) (number : ℕ) (command : Command) (playing : Playing heap old now number command)
    → due_step heap number (seat_at now number) ≡ None → Answered heap old now number command playing.told
answered heap old now number command playing none =
    subst (AloneStage heap old now number command playing.told (seat_at now number)) (stepless_is_idle heap number (seat_at now number) none) playing.stage.alone

-- a reply that is told last is the last
pub last_reply-said : (entries_ : List Entry) (number : ℕ) (command : Command) (reply : Reply) → last_reply_of (entries_ ++ Said number command reply ∷ []) ≡ Some reply
last_reply-said entries_ number command reply =
    let entry = Said number command reply in
    let long = length-append entries_ (entry ∷ []) in
    let last : length (entries_ ++ entry ∷ []) - 1 ≡ length entries_ = omega arith in
    rw last (ap (option_and_then reply_of) (slice_get-get_or (entries_ ++ entry ∷ []) (length entries_) entry (omega arith)
    ∙ ap Some (get_or-append_seam entries_ entry [] entry)))

-- a list has one last reply
one_reply : (number : ℕ) (command : Command) (reply other : Reply) (told before front : List Entry) → told ≡ before ++ Said number command reply ∷ [] → told ≡ front ++ Said number command other ∷ [] → other ≡ reply
one_reply number command reply other told before front is also =
    some_reply (sym (last_reply-said front number command other) ∙ ap last_reply_of (sym also ∙ is) ∙ last_reply-said before number command reply)
  where
    some_reply : {a b : Reply} → Some a ≡ Some b → a ≡ b
    some_reply e = cc

-- nothing is awaited once it is over
all_mine : (heap : Heap) (old now : State) (number : ℕ) (command : Command) (playing : Playing heap old now number command)
    → due_step heap number (seat_at now number) ≡ None → (seat_at now number).mine ≡ (seat_at old number).mine ++ playing.told
all_mine heap old now number command playing none =
    let idle = stepless_is_idle heap number (seat_at now number) none in
    let mine = playing.under.mine in
    sym (append-nil (seat_at now number).mine) ∙ ap (λ (l : List Entry). (seat_at now number).mine ++ l) (sym (ap (entries_awaited_at heap now.words number (seat_at now number)) idle)) ∙ mine

-- by the seat's own view it was answered too, with this reply
pub record OwnEnd (heap : Heap) (old now : State) (number : ℕ) (command : Command) (told : List Entry) (reply : Reply) : Type 0 where
  pub first : List Entry
  pub last : told ≡ first ++ Said number command reply ∷ []
  pub beside : AllByRecursion (IsBeside number) first
  pub comes : ComesFirst number (kept_of (seat_at old number)) command reply first
  pub counts : CountsCall (seat_at old number) (seat_at now number) command
  pub leave : command ≡ Leave → told ≡ leave_entries number (length (seat_at old number).reserve)

own_end : (heap : Heap) (old now : State) (number : ℕ) (command : Command) (playing : Playing heap old now number command)
    (none : due_step heap number (seat_at now number) ≡ None) → OwnEnd heap old now number command playing.told (answered heap old now number command playing none).reply
own_end heap old now number command playing none =
    let answer = answered heap old now number command playing none in
    let own = playing.stage.own in
    let same : playing.listed ≡ playing.told = append_cancel_left (seat_at old number).mine playing.listed playing.told (sym own.mine ∙ all_mine heap old now number command playing none) in
    let is : IsAnswered tells_nothing heap number command (kept_of (seat_at old number)) (kept_of (seat_at now number)) playing.told =
    subst (IsAnswered tells_nothing heap number command (kept_of (seat_at old number)) (kept_of (seat_at now number))) same
    (own_answered tells_nothing heap number command (seat_at old number) (seat_at now number) playing.listed own (stepless_is_idle heap number (seat_at now number) none)) in
    let reply : is.reply ≡ answer.reply = one_reply number command answer.reply is.reply playing.told answer.before is.first answer.last is.last in
    record {
      first = is.first;
      last = is.last ∙ ap (λ (r : Reply). is.first ++ Said number command r ∷ []) reply;
      beside = is.beside;
      comes = subst (λ (r : Reply). ComesFirst number (kept_of (seat_at old number)) command r is.first) reply is.comes;
      counts = call_counts_by_reply tells_nothing heap number command (seat_at old number) (seat_at now number) is.first is.reply is.stands;
      leave = λ a_leave. told_is_leave_entries tells_nothing heap number (kept_of (seat_at old number)) (kept_of (seat_at now number)) playing.told
          (subst (λ (c : Command). IsAnswered tells_nothing heap number c (kept_of (seat_at old number)) (kept_of (seat_at now number)) playing.told) a_leave is);
    }

-- the whole call
pub plays_call : (heap : Heap) (old now : State) (number : ℕ) (command : Command) (playing : Playing heap old now number command)
    (none : due_step heap number (seat_at now number) ≡ None) → PlaysCall heap old now number command (answered heap old now number command playing none).reply
plays_call heap old now number command playing none =
    let answer = answered heap old now number command playing none in
    let own = own_end heap old now number command playing none in
    record {
      steps = playing.under.steps;
      can = playing.under.can;
      ends = playing.under.ends;
      idle = stepless_is_idle heap number (seat_at now number) none;
      before = own.first;
      shown = playing.under.shows ∙ own.last;
      mine = all_mine heap old now number command playing none ∙ ap (λ (l : List Entry). (seat_at old number).mine ++ l) own.last;
      comes = λ near. comes_before number (kept_of (seat_at old number)) command answer.reply own.first own.comes (λ polls p is. near_told p (answer.phase polls p is) (near polls));
      beside = own.beside;
    }
  where
    near_told : (p : ℕ) → p ≡ at heap old.words Phase → IsPhaseNear heap old number → (p ≡ (seat_at old number).answered) ⊎ (p ≡ (seat_at old number).answered + 1)
    near_told p is (inl same) = inl (is ∙ same)
    near_told p is (inr next) = inr (is ∙ next)

-- the reply that its last entry tells, whatever was forgotten before the call
pub replied : (heap : Heap) (old now : State) (number : ℕ) (command : Command) (playing : Playing heap old now number command)
    (none : due_step heap number (seat_at now number) ≡ None) (gone : ℕ) → gone ≤ length (seat_at old number).mine
    → last_reply_of (drop gone (seat_at now number).mine) ≡ Some (answered heap old now number command playing none).reply
replied heap old now number command playing none gone few =
    let over = answered heap old now number command playing none in
    let said = Said number command over.reply in
    let front : List Entry = (seat_at old number).mine ++ over.before in
    let whole : (seat_at now number).mine ≡ front ++ said ∷ [] =
    all_mine heap old now number command playing none ∙ ap (λ (l : List Entry). (seat_at old number).mine ++ l) over.last ∙ sym (append_assoc (seat_at old number).mine over.before (said ∷ [])) in
    ap last_reply_of (ap (drop gone) whole ∙ drop-append-le gone front (said ∷ []) (omega (arith, few, length-append (seat_at old number).mine over.before)))
    ∙ last_reply-said (drop gone front) number command over.reply

-- a step that is due is a move
pub some_due : (heap : Heap) (number : ℕ) (seat : Seat) (step : Step) → due_step heap number seat ≡ Some step → IsSome (next_move heap number seat)
some_due heap number seat step due = some_move (next_move heap number seat) step due
  where
    some_move : (move : Option Move) (step : Step) → option_map (λ m. m.step) move ≡ Some step → IsSome move
    some_move None step e = cc
    some_move (Some m) step e = refl

-- what isn't some step is none
pub none_due : (due : Option Step) → ((step : Step) → due ≡ Some step → ⊥) → due ≡ None
none_due None not_ = refl
none_due (Some step) not_ = absurd (not_ step refl)

-- a loop that has no step left has none due
pub no_step_is_due : {heap : Heap} (now : MachineValue) (number : ℕ) {due : Option Step} → now.heap ≡ heap → due ≡ due_step now.heap number (seat_at now.state number)
    → ((step : Step) → due ≡ Some step → ⊥) → due_step heap number (seat_at now.state number) ≡ None
no_step_is_due now number same is not_ =
    ap (λ h. due_step h number (seat_at now.state number)) (sym same) ∙ sym is ∙ none_due _ not_

-- one more step of a call was made, which was due: the machine's, which leaves fewer steps and room for them
pub record StepsOn (first old new : MachineValue) (number : ℕ) : Type 0 where
  pub some : IsSome (next_move first.heap number (seat_at old.state number))
  pub heap_is : new.heap ≡ first.heap
  pub state_is : new.state ≡ state_after first.heap old.state (Steps number)
  pub fewer : steps_left new.heap (seat_at new.state number) < steps_left old.heap (seat_at old.state number)
  pub room : owes (seat_at new.state number) + 2 ≤ spare_of new number
  pub spent : SpendsRoom first new number

pub steps_on_one_more : {first old new : MachineValue} {number : ℕ} {step : Step} → IsMachine first.heap old.state → number < length old.state.seats → old.heap ≡ first.heap
    → due_step old.heap number (seat_at old.state number) ≡ Some step → new.heap ≡ old.heap → new.state ≡ state_after old.heap old.state (Steps number)
    → SpendsRoom old new number → owes (seat_at old.state number) + 2 ≤ spare_of old number → SpendsRoom first old number → StepsOn first old new number
steps_on_one_more {first} {old} {new} {number} {step} machine within same due heap state spends room spent =
    let next = step_leaves_room old new number step (subst (λ h. IsMachine h old.state) (sym same) machine) within due state spends room in
    record {
      some = some_due first.heap number (seat_at old.state number) step (ap (λ h. due_step h number (seat_at old.state number)) (sym same) ∙ due);
      heap_is = heap ∙ same;
      state_is = state ∙ ap (λ h. state_after h old.state (Steps number)) same;
      fewer = subst (λ h. steps_left h (seat_at new.state number) < steps_left old.heap (seat_at old.state number)) (sym heap) next.0;
      room = next.1;
      spent = spends_room_in_turn first old new number spent spends;
    }

-- a call is under way that no other step came into, with room for the rest of it
pub record CallGoes (first now : MachineValue) (number : ℕ) (command : Command) : Type 0 where
  pub small : (a : Address) → InTable first.heap a → at first.heap first.state.words a < 2 ^ 64
  pub gone : forgotten_of first number ≤ length (log_of first number)
  pub playing : Playing first.heap first.state now.state number command
  pub room : owes (seat_at now.state number) + 2 ≤ spare_of now number

-- so it is after one more step of it
pub call_goes_by_step : {first old new : MachineValue} {number : ℕ} {command : Command} {step : Step} → CallGoes first old number command → old.heap ≡ first.heap → SpendsRoom first old number
    → due_step old.heap number (seat_at old.state number) ≡ Some step → new.heap ≡ old.heap → new.state ≡ state_after old.heap old.state (Steps number) → SpendsRoom old new number
    → StepsOn first old new number × CallGoes first new number command
call_goes_by_step {first} {old} {new} {number} {command} goes same spent due heap state spends =
    let on = steps_on_one_more goes.playing.under.machine goes.playing.under.within same due heap state spends goes.room spent in (
      on,
      record {
        small = goes.small;
        gone = goes.gone;
        playing = subst (λ (s : State). Playing first.heap first.state s number command) (sym on.state_is)
            (playing_after_step first.heap first.state old.state number command goes.small goes.playing on.some);
        room = on.room;
      },
    )

-- the reply that the last entry of its seat tells
recent_reply : {heap : Heap} {old : State} (now : MachineValue) {number : ℕ} {command : Command} (gone : ℕ) (playing : Playing heap old now.state number command)
    (none : due_step heap number (seat_at now.state number) ≡ None) → gone ≤ length (seat_at old number).mine
    → last_reply_of (drop gone (log_of now number)) ≡ Some (answered heap old now.state number command playing none).reply
recent_reply {heap} {old} now {number} {command} gone playing none few =
    ap (λ (l : List Entry). last_reply_of (drop gone l)) (seat_log_is_own_list now number playing.under.within) ∙ replied heap old now.state number command playing none gone few

-- a call that is over was made whole, and its last entry tells the answer
pub record CallOver (heap : Heap) (old now : State) (number : ℕ) (command : Command) (reply : Reply) : Type 0 where
  pub steps : PlaysCall heap old now number command reply
  pub counts : CountsCall (seat_at old number) (seat_at now number) command
  pub leave : command ≡ Leave → TellsLeave old now number
  pub answer : IsRecordCall command → AnswersNew heap old now number command reply
  pub array : IsArrayCall command → AnswersArray heap old now number command reply
  pub refused : IsPlaceRefusal reply → LeavesAll heap old now number reply

pub call_over : {heap : Heap} {old : State} (now : MachineValue) {number : ℕ} {command : Command} {reply : Reply} (gone : ℕ) → Playing heap old now.state number command
    → due_step heap number (seat_at now.state number) ≡ None → gone ≤ length (seat_at old number).mine → last_reply_of (drop gone (log_of now number)) ≡ Some reply
    → CallOver heap old now.state number command reply
call_over {heap} {old} now {number} {command} {reply} gone playing none few last =
    let answer = answered heap old now.state number command playing none in
    let ended = own_end heap old now.state number command playing none in
    let told = recent_reply now gone playing none few in
    let same : answer.reply ≡ reply = some_same answer.reply reply (sym told ∙ last) in
    record {
      steps = subst (PlaysCall heap old now.state number command) same (plays_call heap old now.state number command playing none);
      counts = ended.counts;
      leave = λ a_leave. all_mine heap old now.state number command playing none ∙ ap (λ (l : List Entry). (seat_at old number).mine ++ l) (ended.leave a_leave);
      answer = λ a_record. subst (AnswersNew heap old now.state number command) same (answer.answer a_record);
      array = λ an_array. subst (AnswersArray heap old now.state number command) same (answer.array an_array);
      refused = λ refusal. subst (LeavesAll heap old now.state number) same (answer.refused (subst IsPlaceRefusal (sym same) refusal));
    }
  where
    some_same : (a b : Reply) → Some a ≡ Some b → a ≡ b
    some_same a b e = cc

-- nothing is forgotten by the call, so its seat's entries so far are kept
gone_before : {first now : MachineValue} {number : ℕ} {command : Command} → CallGoes first now number command → SpendsRoom first now number → forgotten_of now number ≤ length (seat_at first.state number).mine
gone_before {first} {now} {number} goes spent =
    let same = ap (λ (l : List ℕ). get_or l number 0) spent.forgotten in
    omega (arith, same, goes.gone, ap (length {A = Entry}) (seat_log_is_own_list first number goes.playing.under.can.0.0))

-- so it is where a loop of its steps has none left
pub call_is_over : {first now : MachineValue} {number : ℕ} {command : Command} {reply : Reply} {due : Option Step} {told : List Entry} {last : Option Reply}
    → CallGoes first now number command → SpendsRoom first now number → now.heap ≡ first.heap → due ≡ due_step now.heap number (seat_at now.state number) → ((step : Step) → due ≡ Some step → ⊥)
    → told ≡ recent_of now number → last ≡ last_reply_of told → last ≡ Some reply → CallOver first.heap first.state now.state number command reply
call_is_over {first} {now} {number} goes spent same due not_ told last is =
    call_over now (forgotten_of now number) goes.playing (no_step_is_due now number same due not_) (gone_before goes spent) (ap last_reply_of (sym told) ∙ sym last ∙ is)

-- and so it tells some reply
pub call_has_some_reply : {first now : MachineValue} {number : ℕ} {command : Command} → CallGoes first now number command → SpendsRoom first now number
    → due_step first.heap number (seat_at now.state number) ≡ None → last_reply_of (recent_of now number) ≡ None → ⊥
call_has_some_reply {first} {now} {number} goes spent none last =
    no_reply _ (sym (recent_reply now (forgotten_of now number) goes.playing none (gone_before goes spent)) ∙ last)
  where
    no_reply : (a : Reply) → Some a ≡ None → ⊥
    no_reply a e = cc
