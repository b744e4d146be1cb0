use Rattle.std.proofs.Common.{ℕ, ◌+◌, ◌<◌}
use Rattle.std.specs.Prelude.{slice_index}
use Rattle.script_crew.specs.Runs.{job_numbers}
use Rattle.run_tests.proofs.tests.crews.do_rise.Given as goal

abbrev pub invariant-loop-k : goal.invariant-loop-k
invariant-loop-k l = (k : ℕ) → k + 1 < l.k → slice_index (job_numbers l.jobs) k < slice_index (job_numbers l.jobs) (k + 1)
