use Rattle.std.proofs.Common.{◌≡◌, ℕ, Bor, List, map, subst}
use Rattle.clap.specs.Simple.{App}
use Rattle.clap.specs.Words.{found_of, matches_of, rows_of}
use Rattle.form_words.specs.Matched.{Takes}
use Rattle.form_words.proofs.FoundWorks.{none_found_none_makes, found_make_completes, nothing_completes_make}
use Rattle.form_words.proofs.work.make_of.Goals as goal

pub returns-in-Some-clause-some : goal.returns-in-Some-clause-some
returns-in-Some-clause-some c =
    let words = map (λ (w : Bor (List ℕ)). w.now) c.args.words.now in
    let rows = rows_of (found_of c.in-Some.matches) in
    let some = subst (λ (app : App). Takes app words × (rows ≡ matches_of app words)) c.in_ok-command.ensures (rw c.in-Some.is at c.in_ok-matches.ensures.some) in
    found_make_completes words rows c.making_in.result some.0 some.1 c.making_in.ensures.some

pub returns-in-Some-clause-none : goal.returns-in-Some-clause-none
returns-in-Some-clause-none c =
    let words = map (λ (w : Bor (List ℕ)). w.now) c.args.words.now in
    let rows = rows_of (found_of c.in-Some.matches) in
    let some = subst (λ (app : App). Takes app words × (rows ≡ matches_of app words)) c.in_ok-command.ensures (rw c.in-Some.is at c.in_ok-matches.ensures.some) in
    none_found_none_makes words rows c.making_in.result some.1 c.making_in.ensures.none

pub returns-in-None-clause-none : goal.returns-in-None-clause-none
returns-in-None-clause-none c =
    let none = rw c.in-None.is at c.in_ok-matches.ensures.none in
    nothing_completes_make (map (λ (w : Bor (List ℕ)). w.now) c.args.words.now) (λ takes. none (rw c.in_ok-command.ensures takes))
