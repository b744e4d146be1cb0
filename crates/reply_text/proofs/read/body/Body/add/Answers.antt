use Rattle.reply_text.proofs.read.body.Body.add.Goals as goal

pub returns-in-Entry-clause-found : goal.returns-in-Entry-clause-found
returns-in-Entry-clause-found c = λ form preamble before. rw c.in-Entry.is (c.add_entry.ensures.found form preamble before)
