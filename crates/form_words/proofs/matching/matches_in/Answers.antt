use Rattle.std.proofs.Common.{◌≡◌, ◌&&◌, Bool, true, false, refl, sym, true≢false}
use Rattle.clap.specs.Words.{app_of, is_simple}
use Rattle.clap.specs.Faults.{is_free_app}
use Rattle.clap.specs.Simple.{built}
use Rattle.form_words.proofs.matching.matches_in.Goals as goal

first_of_two : (a b : Bool) → (a && b) ≡ true → a ≡ true
first_of_two true b e = refl
first_of_two false b e = absurd (true≢false (sym e))

pub returns-in-Ok-clause-some : goal.returns-in-Ok-clause-some
returns-in-Ok-clause-some c =
    let app = app_of c.args.command in
    (record { apart = sym c.if-not-are_apart.ensures; faultless = c.in-Ok.ensures.kinds c.requires }, (c.in-Ok.ensures.matches (first_of_two (is_simple app) (is_free_app (built app)) c.requires)).0)
