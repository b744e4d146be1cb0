use Rattle.std.proofs.Common.{◌∷◌, [], refl, length-append}
use Rattle.std.proofs.lemmas.List.{map-append}
use Rattle.reply_text.specs.read.Body.{lines_read}
use Rattle.reply_text.specs.write.Lines.{history_line}
use Rattle.reply_text.proofs.read.reading.add_line.Goals as goal

pub returns-clause-found : goal.returns-clause-found
returns-clause-found c =
    rw (c.in_ok-add.ensures.found c.args.form c.args.preamble.now c.requires.body, map-append history_line (lines_read c.args.body.now) (c.in-Ok.read ∷ []), c.in-Ok.ensures.found) refl

pub returns-clause-counted : goal.returns-clause-counted
returns-clause-counted c =
    rw (c.in_ok-add.ensures.found c.args.form c.args.preamble.now c.requires.body) (length-append (lines_read c.args.body.now) (c.in-Ok.read ∷ []))

pub returns-clause-range : goal.returns-clause-range
returns-clause-range c = c.in_ok-add.ensures.range c.args.form c.args.preamble.now c.requires.body c.in-Ok.ensures.range
