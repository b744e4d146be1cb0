-- What the command of a form finds in words is the work that they ask for.
use Rattle.std.proofs.Common.{◌≡◌, ℕ, Bool, true, List, [], ◌∷◌, Option, Some, None, decimal, unwrap_or, refl, sym, ◌∙◌, subst, arith, codes}
use Rattle.std.specs.Prelude.{IfSome, IfNone}
use Rattle.clap.specs.Walk.{Row, Text}
use Rattle.clap.specs.Simple.{matches_of}
use Rattle.form_words.specs.Commands.{make_app, play_app, run_app}
use Rattle.form_words.specs.Joined.{are_apart}
use Rattle.form_words.specs.Matched.{FindsMaking, FindsSettings, Takes}
use Rattle.form_words.specs.declared.pace.PaceName.{PaceName}
use Rattle.form_words.specs.declared.pace.PaceName.TheVariants.{Steady}
use Rattle.form_words.specs.declared.setting.Settings.{Settings}
use Rattle.form_words.specs.declared.work.Work.{Work}
use Rattle.form_words.specs.declared.work.Work.TheVariants.{Play, Run, Check, Plan, Make, Migrate, Crew, Queue}
use Rattle.form_words.specs.Settings.{GiveSettings, no_settings}
use Rattle.form_words.specs.Works.{Completes, form_word, usual_patience}
use Rattle.form_words.proofs.GivenSettings.{given_patience_in_range}
use Rattle.form_words.proofs.MakingWords.{found_make_is_three_words, three_words_are_taken}
use Rattle.form_words.proofs.SettingForms.{play_finds_settings, run_finds_settings}
use Rattle.form_words.proofs.FoundSettings.{found_is_play, found_is_run}
use Rattle.form_words.proofs.SettingRows.{number_is_loose}

pub found_play_completes : (words : List Text) (all : Settings) → FindsSettings play_app words all → Completes words (Play all.pace all.brief all.press)
found_play_completes words all finds =
    let play = found_is_play words all finds in
    let same : all ≡ record no_settings { pace = all.pace; brief = all.brief; press = all.press } = λ i. record { pace = all.pace; brief = all.brief; press = all.press; locked = play.unlocked i; patience = play.impatient i } in
    subst (GiveSettings no_settings words) same play.gives_all

pub nothing_completes_play : (words : List Text) → ((all : Settings) → ¬ FindsSettings play_app words all) → (pace : Option PaceName) (brief press : Bool) → ¬ Completes words (Play pace brief press)
nothing_completes_play words none pace brief press gives = none _ (play_finds_settings words (record no_settings { pace = pace; brief = brief; press = press }) refl refl tt gives)

pub found_run_completes : (words : List Text) (all : Settings) → FindsSettings run_app words all → Completes words (Run (unwrap_or all.pace Steady) all.locked (unwrap_or all.patience usual_patience))
found_run_completes words all finds =
    let run = found_is_run words all finds in
    (all, run.gives_all, record { pace_is = refl; locked_is = refl; patience_is = refl; not_brief = run.whole; not_pressed = run.unpressed })

pub nothing_completes_run : (words : List Text) → ((all : Settings) → ¬ FindsSettings run_app words all) → (pace : PaceName) (locked : Bool) (patience : ℕ) → ¬ Completes words (Run pace locked patience)
nothing_completes_run words none pace locked patience (settings, gives, is) = none settings (run_finds_settings words settings is.not_brief is.not_pressed (given_patience_in_range words settings gives) gives)

same_text : (a : Text) (n : ℕ) → Some a ≡ Some (decimal n) → a ≡ decimal n
same_text a n e = cc

pub make_completes : (words : List Text) (work : Work) → Takes make_app words → FindsMaking (matches_of make_app words) work → Completes words work
make_completes words (Make start seats lines) takes finds =
    let three = found_make_is_three_words words takes.apart takes.faultless in
    let found = subst (λ rows. FindsMaking rows (Make start seats lines)) three.is finds in
    (found.0, three.are ∙ (λ i. same_text three.start start found.1 i ∷ same_text three.seats seats found.2 i ∷ same_text three.lines lines found.3 i ∷ []))
make_completes words (Play pace brief press) takes finds = absurd finds
make_completes words (Run pace locked patience) takes finds = absurd finds
make_completes words Check takes finds = absurd finds
make_completes words Plan takes finds = absurd finds
make_completes words (Migrate kind) takes finds = absurd finds
make_completes words (Crew history) takes finds = absurd finds
make_completes words Queue takes finds = absurd finds

-- a making that words complete is found
pub record IsMakingFound (words : List Text) (work : Work) : Type 0 where
  pub takes : Takes make_app words
  pub finds : FindsMaking (matches_of make_app words) work

pub making_found : (words : List Text) (start seats lines : ℕ) → Completes words (Make start seats lines) → IsMakingFound words (Make start seats lines)
making_found words start seats lines made =
    let one = number_is_loose start (omega (arith, made.0.0)) in
    let two = number_is_loose seats (omega (arith, made.0.1.1)) in
    let three = number_is_loose lines (omega (arith, made.0.2)) in
    let taken = three_words_are_taken (decimal start) (decimal seats) (decimal lines) one.0 two.0 three.0 in
    let apart : are_apart (decimal start ∷ decimal seats ∷ decimal lines ∷ []) ≡ true = rw (one.1, two.1, three.1) refl in
    subst (λ ws. IsMakingFound ws (Make start seats lines)) (sym made.1) (record {
      takes = record { apart = apart; faultless = taken.0 };
      finds = subst (λ rows. FindsMaking rows (Make start seats lines)) (sym taken.1) (made.0, refl, refl, refl);
    })

pub found_make_completes : (words : List Text) (rows : List Row) (found : Option Work) → Takes make_app words → rows ≡ matches_of make_app words → IfSome found (λ work. (form_word work ≡ codes "make") × FindsMaking rows work)
    → IfSome found (λ work. (form_word work ≡ codes "make") × Completes words work)
found_make_completes words rows None takes is some = tt
found_make_completes words rows (Some work) takes is some = (some.0, make_completes words work takes (subst (λ rs. FindsMaking rs work) is some.1))

pub none_found_none_makes : (words : List Text) (rows : List Row) (found : Option Work) → rows ≡ matches_of make_app words → IfNone found ((start seats lines : ℕ) → ¬ FindsMaking rows (Make start seats lines))
    → IfNone found ((start seats lines : ℕ) → ¬ Completes words (Make start seats lines))
none_found_none_makes words rows None is none = λ start seats lines made. none start seats lines (subst (λ rs. FindsMaking rs (Make start seats lines)) (sym is) (making_found words start seats lines made).finds)
none_found_none_makes words rows (Some work) is none = tt

pub nothing_completes_make : (words : List Text) → ¬ Takes make_app words → (start seats lines : ℕ) → ¬ Completes words (Make start seats lines)
nothing_completes_make words none start seats lines made = none (making_found words start seats lines made).takes
