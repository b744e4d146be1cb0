-- What was written of a text in version 2 is the migration of that text.
use Rattle.std.proofs.Common.{◌≡◌, ℕ, ◌∙◌, ◌++◌, ◌∷◌, [], List, length, sym, ap, subst, arith}
use Rattle.script_text.specs.declared.script.Form.{Form}
use Rattle.script_text.specs.declared.script.Form.TheVariants.{Play}
use Rattle.script_text.specs.declared.script.Script.{Script}
use Rattle.script_text.specs.Grammar.{IsScript}
use Rattle.script_text.specs.Migration.{MigratesScript, migrated_script_text}
use Rattle.reply_text.specs.declared.history.History.{History}
use Rattle.reply_text.specs.History.{IsHistory}
use Rattle.reply_text.specs.Migration.{MigratesHistory, migrated_history, migrated_history_text}
use Rattle.reply_text.proofs.Whole.{equal_texts_same_history}
use Rattle.log_merge.specs.Legal.{IsLegalHistory}
use Rattle.log_merge.specs.Lines.{IsFirstIllegal}
use Rattle.log_merge.specs.Migration.{AreJudgedAlike}
use Rattle.log_merge.proofs.Migrated.{migrated_is_judged_alike}
use Rattle.schism_program.specs.Migrating.{MigratesHistoryText, MigratesScriptText}
use Rattle.schism_program.specs.Verdict.{verdict_line, FindsIllegal, FindsLegal}

-- of a script
pub script_is_migrated : (input text : List ℕ) (script : Script) → IsScript Play input script → text ≡ migrated_script_text script
    → ((form : Form) (spelling : List ℕ) → IsScript form spelling script → MigratesScript form spelling script) → MigratesScriptText input text
script_is_migrated input text script spelled told migrates =
    let room = (migrates Play input spelled).room in
    record {
      script = script;
      spelled = spelled;
      told = told;
      migrates = λ form is. migrates form input is;
      fits = λ short. omega (arith, short, room, ap (length {A = ℕ}) told);
    }

-- what a check finds of one text it finds of the other, where it judges their histories alike
module _ (input text : List ℕ) (one other : History) (is : IsHistory input one) (becomes : IsHistory text other) (alike : AreJudgedAlike one other) where
  found_there : (verdict : List ℕ) → FindsLegal input verdict → FindsLegal text verdict
  found_there verdict finds =
      let same = equal_texts_same_history input finds.history one finds.spelled is in
      let legal : IsLegalHistory one = subst IsLegalHistory same finds.legal in
      let counts = ap (λ (h : History). length h.entries) same ∙ alike.count in
      record { history = other; spelled = becomes; legal = alike.legal.0 legal; told = finds.told ∙ ap (λ n. verdict_line n ++ 10 ∷ []) counts }

  refused_there : (line : ℕ) → FindsIllegal input line → FindsIllegal text line
  refused_there line finds =
      let same = equal_texts_same_history input finds.history one finds.spelled is in
      let first : IsFirstIllegal one line = subst (λ (h : History). IsFirstIllegal h line) same finds.first in
      let illegal : ¬ IsLegalHistory one = subst (λ (h : History). ¬ IsLegalHistory h) same finds.illegal in
      record { history = other; spelled = becomes; first = (alike.first line).0 first; illegal = λ legal. illegal (alike.legal.1 legal) }

-- and it judges them alike the other way round
turned_round : (one other : History) → AreJudgedAlike one other → AreJudgedAlike other one
turned_round one other alike = record {
  legal = (alike.legal.1, alike.legal.0);
  count = sym alike.count;
  first = λ line. ((alike.first line).1, (alike.first line).0);
  line_is_one = λ line again f g. alike.line_is_one line again ((alike.first line).1 f) ((alike.first again).0 g);
}

-- of a history
pub history_is_migrated : (input text : List ℕ) (history : History) → IsHistory input history → text ≡ migrated_history_text history → MigratesHistory input history → MigratesHistoryText input text
history_is_migrated input text history spelled told migrates =
    let other = migrated_history history in
    let alike : AreJudgedAlike history other = migrated_is_judged_alike history in
    let back : AreJudgedAlike other history = turned_round history other alike in
    let becomes : IsHistory text other = subst (λ t. IsHistory t other) (sym told) migrates.reads in
    record {
      history = history;
      spelled = spelled;
      told = told;
      migrates = migrates;
      legal = λ verdict. (found_there input text history other spelled becomes alike verdict, found_there text input other history becomes spelled back verdict);
      illegal = λ line. (refused_there input text history other spelled becomes alike line, refused_there text input other history becomes spelled back line);
      fits = λ short. omega (arith, short, migrates.room, ap (length {A = ℕ}) told);
    }
