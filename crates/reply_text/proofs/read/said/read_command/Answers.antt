use Rattle.std.proofs.Common.{◌≡◌, ◌∷◌, ◌++◌, rules, ap, ◌∙◌, bytes_eq, codes, false, true}
use Rattle.script_text.specs.Commands.{has_command, version_commands}
use Rattle.script_text.specs.Grammar.{IsScripted}
use Rattle.script_text.specs.Words.{command_words}
use Rattle.reply_text.proofs.read_lemmas.CommandReading.{first_command, first_command-words, scripted_at-None, scripted_command_is_spelled}
use Rattle.reply_text.proofs.read.said.read_command.Goals as goal

pub returns-in-Ok-clause-gives : goal.returns-in-Ok-clause-gives
returns-in-Ok-clause-gives c =
    let words : c.args.word.now ∷ c.args.words.now ≡ command_words c.in-Ok.command ++ c.operands.new.words = search rules in
    let scripted : IsScripted (version_commands c.args.version) c.in-Ok.command = search rules in
    ap (first_command c.args.version) words ∙ first_command-words c.args.version c.in-Ok.command _ (search rules) (scripted_command_is_spelled c.args.version c.in-Ok.command scripted)

pub returns-in-Err-clause-gives : goal.returns-in-Err-clause-gives
returns-in-Err-clause-gives c =
    let other : bytes_eq c.args.word.now (codes "leave") ≡ false = search rules in
    let has : has_command (version_commands c.args.version) c.args.word.now ≡ true = search rules in
    rw (other, has) (scripted_at-None c.args.word.now c.args.words.now c.in-Err.field-0 c.in-Err.ensures.early (search rules))
