use Rattle.std.proofs.Common.{◌≡◌, sym, ◌∙◌, ap, subst}
use Rattle.core_machine.proofs.Terms.{State, state_after, BeginsInner, MachineValue, IsMachine}
use Rattle.core_machine.proofs.call_lemmas.PlayingInner.{PlayingInner, playing_inner_after_begin, inner_goes_by_step, inner_was_played, inner_begin_spends_room, begun_inner_has_room}
use Rattle.core_machine.proofs.call_lemmas.CallEnd.{no_step_is_due}
use Rattle.core_machine.proofs.machine.Machine.play_inner.Goals as goal

pub loop-step-init : goal.loop-step-init
loop-step-init g c =
    let old = c.args.self.now in
    let start : IsMachine old.heap old.state = subst (λ (v : MachineValue). IsMachine v.heap v.state) c.self.view_is c.self.invariant in
    let begun_ : c.begin_inner.new.self.state ≡ state_after old.heap old.state (BeginsInner c.args.seat c.args.inner) = ap (λ (v : MachineValue). v.state) c.begin_inner.ensures in
    record {
      heap = ap (λ (v : MachineValue). v.heap) c.begin_inner.ensures;
      goes = record {
        playing = subst (λ (s : State). PlayingInner old.heap old.state s c.args.seat c.args.inner) (sym begun_)
            (playing_inner_after_begin old.heap old.state c.args.seat c.args.inner start c.requires.can);
        room = begun_inner_has_room old c.begin_inner.new.self c.args.seat c.args.inner start c.requires.can c.begin_inner.ensures c.requires.room;
      };
      spent = inner_begin_spends_room old c.begin_inner.new.self c.args.seat c.args.inner c.requires.can c.begin_inner.ensures;
    }

pub loop-step-smaller : goal.loop-step-smaller
loop-step-smaller g c =
    (inner_goes_by_step c.loop-step.invariant.goes c.loop-step.invariant.heap c.loop-step.invariant.spent (sym c.due_of_seat.ensures ∙ c.in-Some.is)
    c.step_of_seat.ensures.heap c.step_of_seat.ensures.state c.step_of_seat.ensures.spent).0.fewer

pub loop-step-preserved : goal.loop-step-preserved
loop-step-preserved g c =
    let next = inner_goes_by_step c.loop-step.invariant.goes c.loop-step.invariant.heap c.loop-step.invariant.spent (sym c.due_of_seat.ensures ∙ c.in-Some.is)
    c.step_of_seat.ensures.heap c.step_of_seat.ensures.state c.step_of_seat.ensures.spent in
    record { heap = next.0.heap_is; goes = next.1; spent = next.0.spent }

pub returns-clause-plays : goal.returns-clause-plays
returns-clause-plays g c =
    let old = c.args.self.now in
    inner_was_played old.heap old.state c.loop-step.self.state c.args.seat c.args.inner c.loop-step.invariant.goes.playing
    (no_step_is_due c.loop-step.self c.args.seat c.loop-step.invariant.heap c.due_of_seat.ensures c.in_default.not-Some)
