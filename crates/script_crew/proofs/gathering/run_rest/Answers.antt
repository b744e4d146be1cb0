use Rattle.std.proofs.Common.{rules, ◌≡◌, ◌<◌, length, refl, ap, subst, ◌∙◌, arith}
use Rattle.std.specs.Prelude.{IsPermutation, vec_len}
use Rattle.std.proofs.lemmas.List.Sorted.{IsNonDecreasingBy-from_sort_by_key}
use Rattle.crossbeam_queue.specs.Passes.{view}
use Rattle.script_crew.specs.declared.job.JobRun.{JobRun}
use Rattle.script_crew.specs.declared.position_rule.Tally.{Tally}
use Rattle.script_crew.specs.Positions.{all_shares}
use Rattle.script_crew.proofs.PassMoves.{all_popped}
use Rattle.script_crew.proofs.WholeCrew.{first_at_work, has_run_all}
use Rattle.script_crew.proofs.gathering.run_rest.Goals as goal

pub run_popped-requires-clause-seat : goal.run_popped-requires-clause-seat
run_popped-requires-clause-seat g c κs within =
    let crew = c.in_ok-crew.crew in
    let olds = c.requires.ended.0 in
    let had = c.in_ok-crew.ensures.joined olds c.requires.ended.1 in
    first_at_work c.args.site.now.jobs.now g.N.HeldName.table g.N.HeldName.heap olds (view c.args.pass.now) (view c.join_all.new.pass) crew _ had (omega (arith, had.count, c.requires.ended.1.each_once, c.args.done.ok.0, c.requires.some)) c.index_mut.ensures.value

pub returns : goal.returns
returns g c = λ olds ended.
    let crew = c.in_ok-crew.crew in
    let had = c.in_ok-crew.ensures.joined olds ended in
    let ran = c.in_ok-rest.ensures.ran in
    let shares = λ (one : Tally). one.shares in
    let many : vec_len c.args.done ≡ length olds = c.args.done.ok.0 ∙ ended.each_once in
    let every : (view c.run_popped.new.pass).shares ≡ all_shares = omega (arith, ap shares ran.popped, ap shares had.popped, ap shares c.requires.pushed, c.requires.shares, many) in
    let some : 0 < length crew.seats.items = omega (arith, had.count, many, c.requires.some) in
    let moved = subst (λ runs. IsPermutation runs c.sort_unstable_by_key.new.self.items) c.in_ok-append.ensures.items c.sort_unstable_by_key.ensures.permutation in
    has_run_all c.args.site.now.jobs.now g.N.HeldName.table g.N.HeldName.heap olds (view c.args.pass.now) (view c.join_all.new.pass) crew _ had some c.index_mut.ensures.value (view c.run_popped.new.pass) c.run_popped.new.seat
    c.in_ok-rest.rest.items ran _ (ap (λ (one : Tally). one.pushed) c.requires.pushed) (all_popped (view c.run_popped.new.pass) c.in_ok-rest.ensures.empty every) refl moved
    (IsNonDecreasingBy-from_sort_by_key (λ (run : JobRun). run.job) _ c.sort_unstable_by_key.ensures.sorted (λ a r q k. search rules)) c.requires.jobs
