use Rattle.std.proofs.Common.{◌≡◌, ◌<◌, [], ◌∷◌, ◌++◌, length, get_or, map, List, IfOk, ap, sym, ◌∙◌, subst, arith}
use Rattle.std.proofs.lemmas.List.{length-append}
use Rattle.std.proofs.lemmas.Result.{IfOk-from_err}
use Rattle.script_crew.specs.declared.shift.Task.{Task}
use Rattle.script_crew.specs.declared.shift.Task.TheVariants.{Jobs, Slack}
use Rattle.script_crew.specs.Tasks.{EndsTask}
use Rattle.script_crew.specs.Working.{HaveEnded}
use Rattle.script_crew.proofs.shift.work_all.Goals as goal

-- the last of two
last_of_two : {X : Type 0} (xs ys : List X) (x : X) → xs ≡ ys ++ x ∷ [] → length xs ≡ 2 → get_or xs 1 x ≡ x
last_of_two xs [] x is two = ap (λ l. get_or l 1 x) is
last_of_two xs (y ∷ []) x is two = ap (λ l. get_or l 1 x) is
last_of_two xs (y ∷ z ∷ zs) x is two = absurd (omega (arith, two, ap length is, length-append zs (x ∷ [])))

pub returns-in_err-push : goal.returns-in_err-push
returns-in_err-push g c = IfOk-from_err c.from_residual.result _ c.from_residual.ensures.0

pub returns-in_err-push-2 : goal.returns-in_err-push-2
returns-in_err-push-2 g c = IfOk-from_err c.from_residual-in_err-push-2.result _ c.from_residual-in_err-push-2.ensures.0

pub returns-in_err-both : goal.returns-in_err-both
returns-in_err-both g c = IfOk-from_err c.from_residual-in_err-both.result _ c.from_residual-in_err-both.ensures.0

pub returns-in_err-slack : goal.returns-in_err-slack
returns-in_err-slack g c = IfOk-from_err c.from_residual-in_err-slack.result _ c.from_residual-in_err-slack.ensures.0

pub unreachable-requires : goal.unreachable-requires
unreachable-requires g c = omega (arith, c.in_ok-both.ensures.len, c.in_ok-both.both.ok.0, c.in_ok-push-2.ensures.len, c.in_ok-push.ensures.len, c.new-tasks.ensures.len, c.in_default.ensures.cases)

pub returns : goal.returns
returns g c =
    let queue = c.args.site.now.queue.now in
    let jobs = c.args.site.now.jobs.now in
    let table = g.N.HeldName.table in
    let heap = g.N.HeldName.heap in
    let workers = c.args.workers in
    let both = c.in_ok-both.both.items in
    let done = c.in-Some.done in
    let tasks = c.in_ok-push-2.ensures.items ∙ ap (λ (ts : List Task). ts ++ Jobs workers ∷ []) (c.in_ok-push.ensures.items ∙ ap (λ (ts : List Task). ts ++ Slack ∷ []) c.new-tasks.ensures.items) in
    let two : length both ≡ 2 = omega (arith, c.in_ok-both.ensures.len, c.in_ok-both.both.ok.0, c.in_ok-push-2.ensures.len, c.in_ok-push.ensures.len, c.new-tasks.ensures.len) in
    let few : 1 < length c.push-2.new.self.items = omega (arith, ap length tasks) in
    let gives = (c.in_ok-both.ensures.each 1 done few).1 in
    let task : gives.job ≡ Jobs workers = sym (gives.job_is gives.job) ∙ ap (λ (ts : List Task). get_or ts 1 gives.job) tasks in
    subst (λ one. IfOk one (λ ends. HaveEnded queue jobs table heap (map (λ worker. worker.seat) workers.items) ends.items)) (last_of_two both c.pop.new.self.items done c.in-Some.ensures.items two)
    (subst (λ (one : Task). IfOk (get_or both 1 done) (λ ends. EndsTask queue jobs table heap one ends.items)) task gives.call.met)
