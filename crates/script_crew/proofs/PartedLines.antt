-- How the lists of commands grow line by line, and how jobs are told from them.
use Rattle.std.proofs.Common.{◌≡◌, ◌==◌, ℕ, ◌+◌, ◌<◌, List, [], ◌∷◌, ◌++◌, Bool, true, false, cond, filter, map, slice_index_or, slice_set, refl, sym, ap, subst, ◌∙◌, arith, append-nil}
use Rattle.std.specs.List.{range_with_len}
use Rattle.std.proofs.lemmas.Bool.{eq-eqb, eqb-false, eqb-true}
use Rattle.std.proofs.lemmas.List.{get_or-set_other, get_or-set_same, length-set, map-append}
use Rattle.std.proofs.lemmas.List.Elements.{filter-append}
use Rattle.std.proofs.lemmas.List.FromFn.{filter_of_map_range_with_len_more}
use Rattle.heap_model.specs.declared.command.Command.{Command}
use Rattle.script_crew.specs.declared.job_line.JobLine.{JobLine}
use Rattle.script_crew.specs.CrewText.{job_limit}
use Rattle.script_crew.specs.Parting.{AreSlots, HasJobNumber, commands_of, has_commands, jobs_below, with_line}

-- one line more is one command more of its job, and none of another
commands_of-more : (job : ℕ) (done : List JobLine) (line : JobLine) → commands_of job (done ++ line ∷ []) ≡ commands_of job done ++ cond (line.job == job) (line.command ∷ []) []
commands_of-more job done line =
    ap (map (λ (one : JobLine). one.command)) (filter-append (λ (one : JobLine). one.job == job) done (line ∷ []))
    ∙ map-append (λ (one : JobLine). one.command) (filter (λ (one : JobLine). one.job == job) done) (filter (λ (one : JobLine). one.job == job) (line ∷ []))
    ∙ ap (λ more. commands_of job done ++ more) (one-more (line.job == job)) where
      one-more : (same : Bool) → map (λ (one : JobLine). one.command) (cond same (line ∷ []) []) ≡ cond same (line.command ∷ []) []
      one-more true = refl
      one-more false = refl

-- so the lists stay those of the lines where the line's command is put behind those of its job
pub slots_with_line : (done : List JobLine) (line : JobLine) (slots : List (List Command)) → HasJobNumber line → AreSlots done slots → AreSlots (done ++ line ∷ []) (with_line slots line)
slots_with_line done line slots below are = record {
  count = length-set slots line.job (slice_index_or slots line.job [] ++ line.command ∷ []) ∙ are.count;
  each = λ job low. at job low (line.job == job) refl;
} where
  new : List Command
  new = slice_index_or slots line.job [] ++ line.command ∷ []

  at : (job : ℕ) → job < job_limit → (same : Bool) → (line.job == job) ≡ same → slice_index_or (slice_set slots line.job new) job [] ≡ commands_of job (done ++ line ∷ [])
  at job low true is =
      let one : line.job ≡ job = eqb-true line.job job is in
      subst (λ n. slice_index_or (slice_set slots line.job new) n [] ≡ commands_of n (done ++ line ∷ [])) one
      (get_or-set_same slots line.job new [] (omega (arith, below, are.count))
      ∙ ap (λ commands. commands ++ line.command ∷ []) (are.each line.job below)
      ∙ sym (commands_of-more line.job done line ∙ ap (λ b. commands_of line.job done ++ cond b (line.command ∷ []) []) (eq-eqb line.job line.job refl)))
  at job low false is =
      get_or-set_other slots line.job job new [] (λ same. eqb-false line.job job is (sym same))
      ∙ are.each job low
      ∙ sym (commands_of-more job done line ∙ ap (λ b. commands_of job done ++ cond b (line.command ∷ []) []) is ∙ append-nil (commands_of job done))

-- the next number's job is told behind those of the numbers below it
pub next_job : (lines : List JobLine) (told : ℕ) (commands : List Command) → commands ≡ commands_of told lines →
    jobs_below told lines ++ cond (has_commands (told, commands)) ((told, commands) ∷ []) [] ≡ jobs_below (told + 1) lines
unfolding jobs_below
next_job lines told commands is =
    ap (λ (one : List Command). filter has_commands (map (λ job. (job, commands_of job lines)) (range_with_len 0 told)) ++ cond (has_commands (told, one)) ((told, one) ∷ []) []) is
    ∙ sym (filter_of_map_range_with_len_more has_commands (λ job. (job, commands_of job lines)) 0 told told (omega arith))

-- of no number there is none
pub no_job : (lines : List JobLine) → jobs_below 0 lines ≡ []
unfolding jobs_below
no_job lines = refl
