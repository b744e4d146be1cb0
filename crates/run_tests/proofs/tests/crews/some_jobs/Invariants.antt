use Rattle.std.proofs.Common.{◌≤◌, ◌*◌}
use Rattle.std.specs.Prelude.{All}
use Rattle.script_crew.specs.Jobs.{IsJob, command_count}
use Rattle.run_tests.proofs.tests.crews.some_jobs.Given as goal

-- each so far is a job, of two commands
abbrev pub invariant-loop-position : goal.invariant-loop-position
invariant-loop-position l = All IsJob l.jobs.items × (command_count l.jobs.items ≤ 2 * l.position)
