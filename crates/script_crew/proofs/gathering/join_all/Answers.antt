use Rattle.std.proofs.Common.{◌≤◌, ◌∷◌, [], ◌++◌, length, sym, ap, subst, ◌∙◌, append_assoc, arith}
use Rattle.std.specs.Vec.Iter.{into_iter_items}
use Rattle.std.proofs.lemmas.List.{length-append, take_all}
use Rattle.crossbeam_queue.specs.Passes.{view}
use Rattle.script_crew.specs.declared.gathering.Crew.{Crew}
use Rattle.script_crew.specs.declared.position_rule.Tally.{Tally}
use Rattle.script_crew.specs.Working.{HaveRun}
use Rattle.script_crew.proofs.Joining.{next_has_worked, next_joined, none_joined}
use Rattle.script_crew.proofs.PassMoves.{keeps-merge}
use Rattle.script_crew.proofs.gathering.join_all.Goals as goal

pub loop-one-init : goal.loop-one-init
loop-one-init g c = (
  c.requires.queue,
  λ olds ended. none_joined c.args.site.now.jobs.now g.N.HeldName.table g.N.HeldName.heap (view c.args.pass.now) _ c.requires.popped c.new.ensures.items c.new-3.ensures.items,
  c.into_iter-one-iterator.ensures.into_iter_gives.0,
)

pub absorb-requires-clause-rule : goal.absorb-requires-clause-rule
absorb-requires-clause-rule g c = keeps-merge _ _ _ _ (omega (arith, ap (λ (one : Tally). one.shares) (c.loop-one.invariant.1 c.requires.ended.0 c.requires.ended.1).popped, c.requires.some))

pub absorb-requires-clause-queue : goal.absorb-requires-clause-queue
absorb-requires-clause-queue g c =
    let all = ap (λ ends. c.loop-one.yielded ++ ends) (sym c.in-Some.ensures.steps.0) ∙ c.loop-one.invariant.2 in
    let worked = next_has_worked c.args.site.now.queue.now c.args.site.now.jobs.now g.N.HeldName.table g.N.HeldName.heap c.requires.ended.0 c.args.done.items c.loop-one.yielded (into_iter_items c.next.new.self) c.in-Some.one
    c.in_ok-worker.field-0 c.requires.ended.1 all c.in_ok-worker.was in
    (c.loop-one.invariant.0, worked.of_queue)

pub loop-one-preserved : goal.loop-one-preserved
loop-one-preserved g c =
    let yielded = c.loop-one.yielded in
    let rest = into_iter_items c.next.new.self in
    let all = ap (λ ends. yielded ++ ends) (sym c.in-Some.ensures.steps.0) ∙ c.loop-one.invariant.2 in
    let later : Crew = record { seats = c.push.new.self; begun = c.push-in-loop-one.new.self; runs = c.append.new.self } in (
      (c.absorb.ensures.queue.0 ∙ c.loop-one.invariant.0.0, c.absorb.ensures.queue.2 ∙ c.loop-one.invariant.0.1),
      λ olds ended. next_joined c.args.site.now.queue.now c.args.site.now.jobs.now g.N.HeldName.table g.N.HeldName.heap olds c.args.done.items yielded rest c.in-Some.one c.in_ok-worker.field-0 ended all c.in_ok-worker.was
          (view c.args.pass.now) (view c.loop-one.pass) (view c.absorb.new.pass) c.loop-one.crew later (c.loop-one.invariant.1 olds ended) c.absorb.ensures.rule c.in_ok-push.ensures.items c.in_ok-append.ensures.items,
      append_assoc yielded (c.in-Some.one ∷ []) rest ∙ all,
    )

pub returns-clause-joined : goal.returns-clause-joined
returns-clause-joined g c = λ olds ended.
    let yielded = c.loop-one.yielded in
    let rest = into_iter_items c.loop-one.one-iterator in
    let whole : length olds ≤ length yielded = omega (arith, ended.each_once, ap (λ xs. length xs) c.loop-one.invariant.2, length-append yielded rest, c.in-None.ensures.steps.0) in
    subst (λ seats. HaveRun c.args.site.now.jobs.now g.N.HeldName.table g.N.HeldName.heap seats (view c.args.pass.now) (view c.loop-one.pass) c.loop-one.crew) (take_all (length yielded) olds whole)
    (c.loop-one.invariant.1 olds ended)
