use Rattle.reply_text.specs.History.{IsHistory}
use Rattle.reply_text.specs.read.Faults.{first_history_fault}
use Rattle.script_text.proofs.Texts.{GivesOnly-from_read}
use Rattle.reply_text.proofs.Whole.{equal_texts_same_history, first_history_fault-none, read_entries_have_text}
use Rattle.reply_text.proofs.read.reading.read_history.Goals as goal

pub returns-clause-spelled : goal.returns-clause-spelled
returns-clause-spelled c = read_entries_have_text c.args.text.now _ c.read.ensures.found

pub returns-clause-only : goal.returns-clause-only
returns-clause-only c =
    let text = c.args.text.now in
    GivesOnly-from_read (IsHistory text) (first_history_fault text) _ (equal_texts_same_history text) (first_history_fault-none text) c.read.ensures.found c.read.ensures.fault
