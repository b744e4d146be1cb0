use Rattle.std.proofs.Common.{◌≡◌, ◌+◌, ◌∷◌, [], ◌++◌, length, sym, ap, subst, arith}
use Rattle.std.specs.Prelude.{All}
use Rattle.std.proofs.lemmas.List.Elements.{All-nil, All-push}
use Rattle.std.proofs.lemmas.List.Sums.{sum_by_push}
use Rattle.script_crew.specs.declared.job.Job.{Job}
use Rattle.script_crew.specs.Jobs.{IsJob, command_count}
use Rattle.run_tests.proofs.tests.crews.some_jobs.Goals as goal

pub loop-position-init : goal.loop-position-init
loop-position-init c = (subst (All IsJob) (sym c.new-jobs.ensures.items) (All-nil IsJob), omega (arith, ap command_count c.new-jobs.ensures.items))

pub loop-position-preserved : goal.loop-position-preserved
loop-position-preserved c =
    let jobs = c.loop-position.jobs.items in
    let job = c.in_ok-job.job in
    let more : command_count (jobs ++ job ∷ []) ≡ command_count jobs + length job.commands.items = sum_by_push (λ (one : Job). length one.commands.items) jobs job in (
      subst (All IsJob) (sym c.in_ok-push.ensures.items) (All-push IsJob jobs job c.loop-position.invariant.0 c.in_ok-job.ensures.job),
      omega (arith, ap command_count c.in_ok-push.ensures.items, more, c.in_ok-job.ensures.commands, c.loop-position.invariant.1),
    )
