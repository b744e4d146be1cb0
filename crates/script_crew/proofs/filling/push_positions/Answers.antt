use Rattle.std.proofs.Common.{◌≡◌, ◌+◌, ◌∷◌, [], ◌++◌, length, ap, ◌∙◌, arith}
use Rattle.std.specs.List.{range_with_len}
use Rattle.std.proofs.lemmas.List.FromFn.{length-range_with_len}
use Rattle.crossbeam_queue.specs.Passes.{view}
use Rattle.script_crew.specs.declared.position_rule.Tally.{Tally}
use Rattle.script_crew.specs.Positions.{tally}
use Rattle.script_crew.proofs.PassMoves.{keeps-push, settles, never_full}
use Rattle.script_crew.proofs.SameLists.{range-push}
use Rattle.script_crew.proofs.filling.push_positions.Goals as goal

pub push_as-requires-clause-rule : goal.push_as-requires-clause-rule
push_as-requires-clause-rule g c = (keeps-push _ _ _ _ (ap (λ (one : Tally). one.shares) c.loop-position.invariant.1), settles _ _)

pub unreachable-requires : goal.unreachable-requires
unreachable-requires g c =
    let is = c.loop-position.invariant.1 in
    never_full _ (view c.loop-position.pass) c.in-Err.ensures.rule.2 (ap (λ (one : Tally). one.shares) is) (ap (λ (one : Tally). one.popped) is)
    (omega (arith, ap (λ (one : Tally). length one.pushed) is, length-range_with_len 0 c.loop-position.position, c.loop-position-test.true, c.loop-position.invariant.2))

pub loop-position-preserved : goal.loop-position-preserved
loop-position-preserved g c =
    let is = c.loop-position.invariant.1 in
    let position = c.loop-position.position in
    let pushed : (view c.loop-position.pass).pushed ++ position ∷ [] ≡ range_with_len 0 (position + 1) = ap (λ (one : Tally). one.pushed ++ position ∷ []) is ∙ range-push position in
    let known : (view c.loop-position.pass).known ++ position ∷ [] ≡ range_with_len 0 (position + 1) = ap (λ (one : Tally). one.known ++ position ∷ []) is ∙ range-push position in (
      (c.push_as.ensures.queue.0 ∙ c.loop-position.invariant.0.0, c.push_as.ensures.queue.2 ∙ c.loop-position.invariant.0.1),
      c.in-Ok.ensures.rule ∙ (λ i. tally (is i).shares (pushed i) (is i).popped (known i)),
      c.loop-position.invariant.2,
    )
