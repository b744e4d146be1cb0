use Rattle.std.proofs.Common.{◌≡◌, sym, ◌∙◌, ap, subst}
use Rattle.core_machine.proofs.Terms.{State, state_after, Begins, MachineValue, IsMachine, last_reply_of}
use Rattle.core_machine.proofs.table_lemmas.Addresses.{read_word_is_small}
use Rattle.core_machine.proofs.call_lemmas.Calling.{Playing, playing_after_begin}
use Rattle.core_machine.proofs.call_lemmas.CallRoom.{begin_spends_room, begun_call_has_room}
use Rattle.core_machine.proofs.call_lemmas.CallEnd.{no_step_is_due, call_goes_by_step, call_is_over, call_has_some_reply}
use Rattle.core_machine.proofs.machine.Machine.play_call.Goals as goal

pub loop-step-init : goal.loop-step-init
loop-step-init g c =
    let old = c.args.self.now in
    let start : IsMachine old.heap old.state = subst (λ (v : MachineValue). IsMachine v.heap v.state) c.self.view_is c.self.invariant in
    let begun_ : c.begin.new.self.state ≡ state_after old.heap old.state (Begins c.args.seat c.args.command.now) = ap (λ (v : MachineValue). v.state) c.begin.ensures in
    record {
      heap = ap (λ (v : MachineValue). v.heap) c.begin.ensures;
      goes = record {
        small = λ a within. read_word_is_small old.heap old.state.words a start.wide;
        gone = c.recent.ensures.within;
        playing = subst (λ (s : State). Playing old.heap old.state s c.args.seat c.args.command.now) (sym begun_)
            (playing_after_begin old.heap old.state c.args.seat c.args.command.now start c.requires.can);
        room = begun_call_has_room old c.begin.new.self c.args.seat c.args.command.now start c.requires.can c.begin.ensures c.requires.room;
      };
      spent = begin_spends_room old c.begin.new.self c.args.seat c.args.command.now start c.requires.can c.begin.ensures;
    }

pub loop-step-smaller : goal.loop-step-smaller
loop-step-smaller g c =
    (call_goes_by_step c.loop-step.invariant.goes c.loop-step.invariant.heap c.loop-step.invariant.spent (sym c.due_of_seat.ensures ∙ c.in-Some.is)
    c.step_of_seat.ensures.heap c.step_of_seat.ensures.state c.step_of_seat.ensures.spent).0.fewer

pub loop-step-preserved : goal.loop-step-preserved
loop-step-preserved g c =
    let next = call_goes_by_step c.loop-step.invariant.goes c.loop-step.invariant.heap c.loop-step.invariant.spent (sym c.due_of_seat.ensures ∙ c.in-Some.is)
    c.step_of_seat.ensures.heap c.step_of_seat.ensures.state c.step_of_seat.ensures.spent in
    record { heap = next.0.heap_is; goes = next.1; spent = next.0.spent }

pub returns-clause-steps : goal.returns-clause-steps
returns-clause-steps g c =
    (call_is_over c.loop-step.invariant.goes c.loop-step.invariant.spent c.loop-step.invariant.heap c.due_of_seat.ensures c.in_default.not-Some c.recent-2.ensures.recent c.last_reply.ensures c.in-Some-last_reply.is).steps

pub returns-clause-answer : goal.returns-clause-answer
returns-clause-answer g c =
    (call_is_over c.loop-step.invariant.goes c.loop-step.invariant.spent c.loop-step.invariant.heap c.due_of_seat.ensures c.in_default.not-Some c.recent-2.ensures.recent c.last_reply.ensures c.in-Some-last_reply.is).answer

pub unreachable-requires : goal.unreachable-requires
unreachable-requires g c =
    call_has_some_reply c.loop-step.invariant.goes c.loop-step.invariant.spent (no_step_is_due c.loop-step.self c.args.seat c.loop-step.invariant.heap c.due_of_seat.ensures c.in_default.not-Some)
    (ap last_reply_of (sym c.recent-2.ensures.recent) ∙ sym c.last_reply.ensures ∙ c.in-None.is)

pub returns-clause-array : goal.returns-clause-array
returns-clause-array g c =
    (call_is_over c.loop-step.invariant.goes c.loop-step.invariant.spent c.loop-step.invariant.heap c.due_of_seat.ensures c.in_default.not-Some c.recent-2.ensures.recent c.last_reply.ensures c.in-Some-last_reply.is).array

pub returns-clause-refused : goal.returns-clause-refused
returns-clause-refused g c =
    (call_is_over c.loop-step.invariant.goes c.loop-step.invariant.spent c.loop-step.invariant.heap c.due_of_seat.ensures c.in_default.not-Some c.recent-2.ensures.recent c.last_reply.ensures c.in-Some-last_reply.is).refused

pub returns-clause-counts : goal.returns-clause-counts
returns-clause-counts g c =
    (call_is_over c.loop-step.invariant.goes c.loop-step.invariant.spent c.loop-step.invariant.heap c.due_of_seat.ensures c.in_default.not-Some c.recent-2.ensures.recent c.last_reply.ensures c.in-Some-last_reply.is).counts

pub returns-clause-leave : goal.returns-clause-leave
returns-clause-leave g c =
    (call_is_over c.loop-step.invariant.goes c.loop-step.invariant.spent c.loop-step.invariant.heap c.due_of_seat.ensures c.in_default.not-Some c.recent-2.ensures.recent c.last_reply.ensures c.in-Some-last_reply.is).leave
