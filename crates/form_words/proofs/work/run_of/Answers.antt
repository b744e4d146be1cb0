use Rattle.std.proofs.Common.{ℕ, Bor, List, map, refl, subst}
use Rattle.clap.specs.Simple.{App}
use Rattle.form_words.specs.Matched.{FindsSettings}
use Rattle.form_words.proofs.FoundWorks.{nothing_completes_run, found_run_completes}
use Rattle.form_words.proofs.work.run_of.Goals as goal

pub returns-in_default-clause-none : goal.returns-in_default-clause-none
returns-in_default-clause-none c =
    let none = rw c.in_default.is at c.in_ok-settings.ensures.none in
    nothing_completes_run _ (λ all finds. none all (rw c.in_ok-command.ensures finds))

pub returns-clause-some : goal.returns-clause-some
returns-clause-some c =
    let some = rw c.in-Some.is at c.in_ok-settings.ensures.some in
    let completes = found_run_completes _ c.in-Some.settings (subst (λ (app : App). FindsSettings app (map (λ (w : Bor (List ℕ)). w.now) c.args.words.now) c.in-Some.settings) c.in_ok-command.ensures some) in
    (refl, rw (c.unwrap_or.ensures, c.unwrap_or-2.ensures) completes)
