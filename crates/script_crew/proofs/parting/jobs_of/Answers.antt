use Rattle.std.proofs.Common.{◌≡◌, ◌+◌, ◌<◌, cond, ◌∷◌, [], ◌++◌, map, refl, sym, ap, subst, ◌∙◌, append_assoc, slice_index_or, arith}
use Rattle.std.specs.Vec.Iter.{into_iter_items}
use Rattle.std.proofs.Math.Seq.{get_or-append_seam}
use Rattle.std.proofs.lemmas.List.{get_or-map, length-append, length-map}
use Rattle.script_crew.specs.CrewText.{job_limit}
use Rattle.script_crew.specs.Parting.{AreSlots, commands_of, has_commands, jobs_below, told_by}
use Rattle.script_crew.proofs.JobsTold.{told_jobs_are_jobs}
use Rattle.script_crew.proofs.PartedLines.{next_job, no_job}
use Rattle.script_crew.proofs.parting.jobs_of.Goals as goal

pub loop-commands-init : goal.loop-commands-init
loop-commands-init c =
    let lines = c.args.crew.now.lines in
    let gives : into_iter_items c.into_iter-commands-iterator.result ≡ c.in_ok-commands-items.commands-items.items = c.into_iter-commands-iterator.ensures.into_iter_gives.0 in (
      ap (map told_by) c.new-jobs.ensures.items ∙ sym (no_job lines),
      refl,
      subst (λ ls. AreSlots ls (map (λ slot. slot.items) (into_iter_items c.into_iter-commands-iterator.result))) c.as_slice.ensures
          (subst (λ xs. AreSlots c.as_slice.result.now (map (λ slot. slot.items) xs)) (sym gives) c.in_ok-commands-items.ensures),
    )

pub loop-commands-preserved : goal.loop-commands-preserved
loop-commands-preserved c =
    let had = c.loop-commands.invariant in
    let lines = c.args.crew.now.lines in
    let commands = c.in-Some.commands in
    let before = c.loop-commands.yielded in
    let rest = into_iter_items c.next.new.self in
    let slots : into_iter_items c.loop-commands.commands-iterator ≡ commands ∷ rest = c.in-Some.ensures.steps.0 in
    let whole : AreSlots lines (map (λ slot. slot.items) (before ++ commands ∷ rest)) = subst (λ xs. AreSlots lines (map (λ slot. slot.items) (before ++ xs))) slots had.2 in
    let low : c.loop-commands.number < job_limit = omega (arith, whole.count, length-map (before ++ commands ∷ rest) (λ slot. slot.items), length-append before (commands ∷ rest), had.1) in
    let of_number : commands.items ≡ commands_of c.loop-commands.number lines =
    sym (get_or-map (λ slot. slot.items) (before ++ commands ∷ rest) c.loop-commands.number commands [] (omega (arith, length-append before (commands ∷ rest), had.1))
    ∙ ap (λ slot. slot.items) (subst (λ n. slice_index_or (before ++ commands ∷ rest) n commands ≡ commands) had.1 (get_or-append_seam before commands rest commands)))
    ∙ whole.each c.loop-commands.number low in (
      c.in_ok-push_job.ensures ∙ ap (λ xs. xs ++ cond (has_commands (c.loop-commands.number, commands.items)) ((c.loop-commands.number, commands.items) ∷ []) []) had.0 ∙ next_job lines c.loop-commands.number commands.items of_number,
      length-append before (commands ∷ []) ∙ ap (λ n. n + 1) had.1,
      subst (λ xs. AreSlots lines (map (λ slot. slot.items) xs)) (sym (append_assoc before (commands ∷ []) rest)) whole,
    )

told_all : goal.returns-clause-told
told_all c =
    let had = c.loop-commands.invariant in
    let before = c.loop-commands.yielded in
    let rest = into_iter_items c.loop-commands.commands-iterator in
    let all : c.loop-commands.number ≡ job_limit =
    omega (arith, had.1, had.2.count, length-map (before ++ rest) (λ slot. slot.items), length-append before rest, c.in-None.ensures.steps.0) in
    had.0 ∙ ap (λ n. jobs_below n c.args.crew.now.lines) all

pub returns-clause-told : goal.returns-clause-told
returns-clause-told c = told_all c

pub returns-clause-jobs : goal.returns-clause-jobs
returns-clause-jobs c = told_jobs_are_jobs c.args.crew.now c.loop-commands.jobs.items c.requires (told_all c)
