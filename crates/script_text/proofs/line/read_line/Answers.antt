use Rattle.std.proofs.Common.{◌≡◌, rules}
use Rattle.script_text.specs.Text.{words_of}
use Rattle.script_text.proofs.TextLemmas.{sentence-words_of}
use Rattle.script_text.proofs.line.read_line.Goals as goal

pub returns-clause-found : goal.returns-clause-found
returns-clause-found g c =
    let words : words_of c.args.line.now ≡ g.G.Grammar.line_words c.args.grammar.now c.in_ok-read.read = search rules in
    sentence-words_of c.args.line.now (g.G.Grammar.line_words c.args.grammar.now c.in_ok-read.read) words
