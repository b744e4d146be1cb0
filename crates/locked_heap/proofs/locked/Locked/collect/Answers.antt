use Rattle.std.proofs.Common.{◌≡◌, ℕ, ◌==◌, if◌then◌else◌, Bool, true, false, List, Some, refl, sym, ap, subst, ◌∙◌}
use Rattle.std.specs.Prelude.{Result, Ok, Err, OnOk, Option, None}
use Rattle.heap_model.specs.declared.calls.collect.Inner.{Inner}
use Rattle.heap_model.specs.declared.calls.collect.Inner.TheVariants as inners
use Rattle.heap_model.specs.declared.calls.collector_calls.Turn.{Turn}
use Rattle.heap_model.specs.declared.calls.collector_calls.Turn.TheVariants as turns
use Rattle.heap_model.specs.declared.command.Command.TheVariants.{Collect}
use Rattle.core_machine.specs.machine.Machine.{BeginsInner, Can}
use Rattle.locked_heap.specs.declared.progress.Progress.{Progress}
use Rattle.locked_heap.specs.Locked.{LockedValue, IsNext, IsQuiet, CollectsOn, found_by_turn}
use Rattle.locked_heap.specs.Progress.{progress_at}
use Rattle.heap_record.specs.Recorded.{StandsStill, MakesInner}
use Rattle.locked_heap.proofs.Owing.{owes_no_more_after_turn, owes_no_more_in_turn, owes_no_more_untold}
use Rattle.locked_heap.proofs.Parting.{some_are_there, stands_locked_still, comes_no_further}
use Rattle.locked_heap.proofs.Returning.{on_ok_at_err, comes_further_since}
use Rattle.locked_heap.proofs.TurnsStand.{turns_on_after_turn, stands_locked_after_turns}
use Rattle.locked_heap.proofs.locked.Locked.collect.Goals as goal

-- of two facts that an answer tells follows a third
both_ok : {T E : Type 0} (r : Result T E) (P Q R : Type 0) → (P → Q → R) → OnOk r P → OnOk r Q → OnOk r R
both_ok (Ok v) P Q R then_ one two = then_ one two
both_ok (Err e) P Q R then_ one two = tt

same_some : (one two : ℕ) → Some one ≡ Some two → one ≡ two
same_some one two is = cc is

-- a target is not none
no_target : (P : Type 0) (o : Option ℕ) (target : ℕ) → o ≡ Some target → o ≡ None → P
no_target P o target is none = absurd (cc (is, none))

-- what finds out what a turn came to tells no reply
quiet_either : (own : Bool) (other : ℕ) → IsQuiet (if own then inners.Answer else inners.Behind other)
quiet_either true other = tt
quiet_either false other = tt

found_is_quiet : (number : ℕ) (turn : Turn) → IsQuiet (found_by_turn number turn)
found_is_quiet number (turns.Waits other answered p) = quiet_either (other == number) other
found_is_quiet number turns.Stepped = tt
found_is_quiet number (turns.Ended cycle kept) = tt

pub progress-requires : goal.progress-requires
progress-requires g c = c.requires.within

pub begin_collect-requires-clause-next : goal.begin_collect-requires-clause-next
begin_collect-requires-clause-next g c = c.requires

pub begin_collect-requires-clause-fresh : goal.begin_collect-requires-clause-fresh
begin_collect-requires-clause-fresh g c = ap (λ (p : Progress). p.target) (sym c.progress.ensures) ∙ c.in_default.is

pub returns-in_default-clause-begins : goal.returns-in_default-clause-begins
returns-in_default-clause-begins g c _ = c.begin_collect.ensures.begun

pub returns-in_default-clause-goes_on : goal.returns-in_default-clause-goes_on
returns-in_default-clause-goes_on g c target is = no_target _ _ target is (ap (λ (p : Progress). p.target) (sym c.progress.ensures) ∙ c.in_default.is)

pub returns-in_default-clause-further : goal.returns-in_default-clause-further
returns-in_default-clause-further g c = c.begin_collect.ensures.further

pub returns-in_default-clause-owed : goal.returns-in_default-clause-owed
returns-in_default-clause-owed g c = c.begin_collect.ensures.owed

pub invariant_of-self : goal.invariant_of-self
invariant_of-self g c = stands_locked_still g.N.Handed.given _ c.room.new.self c.self.inside.patience c.self.invariant c.room.ensures.still

pub returns-in_err-room-clause-begins : goal.returns-in_err-room-clause-begins
returns-in_err-room-clause-begins g c _ = on_ok_at_err c.from_residual.result _ c.from_residual.ensures.0

pub returns-in_err-room-clause-goes_on : goal.returns-in_err-room-clause-goes_on
returns-in_err-room-clause-goes_on g c target _ = on_ok_at_err c.from_residual.result _ c.from_residual.ensures.0

pub returns-in_err-room-clause-further : goal.returns-in_err-room-clause-further
returns-in_err-room-clause-further g c = comes_no_further _ _ c.args.seat (ap (λ (v : LockedValue). v.seats) c.self.view_is) (ap (λ (v : LockedValue). v.over) c.self.view_is)

pub returns-in_err-room-clause-owed : goal.returns-in_err-room-clause-owed
returns-in_err-room-clause-owed g c = owes_no_more_untold _ _ _ c.self.view_is c.room.ensures.still.history_stays refl

pub turn-turn-requires : goal.turn-turn-requires
turn-turn-requires g c = c.in_ok-room.ensures.room

pub inner-requires-clause-collects : goal.inner-requires-clause-collects
inner-requires-clause-collects g c = record {
  next = subst (λ (v : LockedValue). IsNext g.N.Handed.given v.seats c.args.seat Collect) (sym c.self.view_is) c.requires;
  begun = no_target _ _ c.in-Some.target (ap (λ (v : LockedValue). (progress_at v.seats c.args.seat).target) c.self.view_is ∙ ap (λ (p : Progress). p.target) (sym c.progress.ensures) ∙ c.in-Some.is);
}

pub inner-requires-clause-quiet : goal.inner-requires-clause-quiet
inner-requires-clause-quiet g c = subst IsQuiet (sym c.found_by_turn.ensures) (found_is_quiet c.args.seat c.turn-turn.result)

pub returns-in_err-inner-clause-begins : goal.returns-in_err-inner-clause-begins
returns-in_err-inner-clause-begins g c _ = on_ok_at_err c.from_residual-in_err-inner.result _ c.from_residual-in_err-inner.ensures.0

pub returns-in_err-inner-clause-goes_on : goal.returns-in_err-inner-clause-goes_on
returns-in_err-inner-clause-goes_on g c target _ = on_ok_at_err c.from_residual-in_err-inner.result _ c.from_residual-in_err-inner.ensures.0

pub returns-in_err-inner-clause-further : goal.returns-in_err-inner-clause-further
returns-in_err-inner-clause-further g c =
    comes_no_further _ c.inner.new.self c.args.seat (c.inner.ensures.seats ∙ ap (λ (v : LockedValue). v.seats) c.self.view_is) (c.inner.ensures.over ∙ ap (λ (v : LockedValue). v.over) c.self.view_is)

pub answer-requires-clause-next : goal.answer-requires-clause-next
answer-requires-clause-next g c =
    subst (λ (l : List Progress). IsNext g.N.Handed.given l c.args.seat Collect) (sym (c.inner.ensures.seats ∙ ap (λ (v : LockedValue). v.seats) c.self.view_is)) c.requires

pub answer-requires-clause-target : goal.answer-requires-clause-target
answer-requires-clause-target g c =
    ap (λ (l : List Progress). (progress_at l c.args.seat).target) (c.inner.ensures.seats ∙ ap (λ (v : LockedValue). v.seats) c.self.view_is) ∙ ap (λ (p : Progress). p.target) (sym c.progress.ensures) ∙ c.in-Some.is

pub returns-clause-begins : goal.returns-clause-begins
returns-clause-begins g c none = no_target _ _ c.in-Some.target (ap (λ (p : Progress). p.target) (sym c.progress.ensures) ∙ c.in-Some.is) none

pub returns-clause-further : goal.returns-clause-further
returns-clause-further g c =
    comes_further_since _ c.inner.new.self _ c.args.seat (c.inner.ensures.seats ∙ ap (λ (v : LockedValue). v.seats) c.self.view_is) (c.inner.ensures.over ∙ ap (λ (v : LockedValue). v.over) c.self.view_is)
    c.answer.ensures.further

pub returns-clause-goes_on : goal.returns-clause-goes_on
returns-clause-goes_on g c target is =
    let given = g.N.Handed.given in
    let locked = c.args.self.now in
    let number = c.args.seat in
    let turned : LockedValue = record { recorded = c.turn-turn.new.self; seats = c.self.inside.seats.items; owed = c.self.inside.owed; over = c.self.inside.over } in
    let same : c.in-Some.target ≡ target = same_some c.in-Some.target target (sym c.in-Some.is ∙ ap (λ (p : Progress). p.target) c.progress.ensures ∙ is) in
    subst (λ (t : ℕ). OnOk c.answer.result (CollectsOn given locked c.answer.new.self number t)) same
    (both_ok c.answer.result _ _ (CollectsOn given locked c.answer.new.self number c.in-Some.target) (λ ended waits. record {
      ready = c.room.new.self;
      still = subst (λ (v : LockedValue). StandsStill v.recorded c.room.new.self) c.self.view_is c.room.ensures.still;
      turned = turned;
      turn = c.turn-turn.result;
      turns = c.turn-turn.ensures.turned;
      found = c.inner.new.self;
      finds = subst (λ (i : Inner). Can turned.recorded.machine.heap turned.recorded.machine.state (BeginsInner number i) → MakesInner turned.recorded c.inner.new.self.recorded number i) c.found_by_turn.ensures c.in_ok-inner.ensures.makes;
      ended = ended;
      waits = waits;
    }) c.answer.ensures.ended c.answer.ensures.waits)

pub invariant_of-self-2 : goal.invariant_of-self-2
invariant_of-self-2 g c =
    let given = g.N.Handed.given in
    let inside = c.self.inside in
    let next : IsNext given inside.seats.items c.args.seat Collect = subst (λ (v : LockedValue). IsNext given v.seats c.args.seat Collect) (sym c.self.view_is) c.requires in
    stands_locked_after_turns given _ c.turn-turn.new.self inside.owed inside.patience c.self.invariant (turns_on_after_turn inside.recorder c.room.new.self c.turn-turn.new.self c.turn-turn.result c.room.ensures.still c.turn-turn.ensures.turned)
    (some_are_there given inside.seats.items c.args.seat next.within next.there)

pub returns-in_err-inner-clause-owed : goal.returns-in_err-inner-clause-owed
returns-in_err-inner-clause-owed g c =
    let inside = c.self.inside in
    let turned : LockedValue = record { recorded = c.turn-turn.new.self; seats = inside.seats.items; owed = inside.owed; over = inside.over } in
    owes_no_more_in_turn c.args.self.now turned c.inner.new.self (owes_no_more_after_turn _ c.args.self.now turned c.room.new.self c.turn-turn.result c.self.view_is c.room.ensures.still c.turn-turn.ensures.turned refl) c.inner.ensures.owed

pub returns-clause-owed : goal.returns-clause-owed
returns-clause-owed g c =
    let inside = c.self.inside in
    let turned : LockedValue = record { recorded = c.turn-turn.new.self; seats = inside.seats.items; owed = inside.owed; over = inside.over } in
    owes_no_more_in_turn c.args.self.now turned c.answer.new.self (owes_no_more_after_turn _ c.args.self.now turned c.room.new.self c.turn-turn.result c.self.view_is c.room.ensures.still c.turn-turn.ensures.turned refl)
    (owes_no_more_in_turn turned c.inner.new.self c.answer.new.self c.inner.ensures.owed c.answer.ensures.owed)
