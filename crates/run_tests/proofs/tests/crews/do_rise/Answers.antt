use Rattle.std.proofs.Common.{◌≡◌, ℕ, ◌+◌, ◌-◌, ◌<◌, ◌≤◌, ap, ⊎_elim, eq-or-lt_of_le, arith}
use Rattle.std.specs.Prelude.{slice_index}
use Rattle.std.proofs.lemmas.List.{get_or-map}
use Rattle.script_crew.specs.declared.job.Job.{Job}
use Rattle.script_crew.specs.Runs.{job_numbers}
use Rattle.run_tests.proofs.tests.crews.do_rise.Goals as goal

pub loop-k-preserved : goal.loop-k-preserved
loop-k-preserved c = λ k few.
    let jobs = c.args.jobs.now in
    let next = c.loop-k.k in
    let number : Job → ℕ = λ job. job.number in
    let le : k + 1 ≤ next = omega (arith, few) in
    let high = get_or-map number jobs next c.index-jobs-k.result 0 (omega (arith, c.loop-k-test.true)) in
    let low = get_or-map number jobs (next - 1) c.index-jobs-k-in-loop-k.result 0 (omega (arith, c.loop-k-test.true)) in
    let less = c.if-number-before.false in
    ⊎_elim
    (λ (last : k + 1 ≡ next).
    let before : next - 1 ≡ k = omega (arith, last) in
    omega (arith, less, high, low, ap (slice_index (job_numbers jobs)) last, ap (slice_index (job_numbers jobs)) before))
    (λ (earlier : k + 1 < next). c.loop-k.invariant k earlier)
    (eq-or-lt_of_le le)
