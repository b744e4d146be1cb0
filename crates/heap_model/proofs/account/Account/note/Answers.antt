use Rattle.std.proofs.Common.{rules}
use Rattle.heap_model.proofs.account_lemmas.Noting.{entry_is_noted}
use Rattle.heap_model.proofs.account.Account.note.Goals as goal

pub returns-in-Some : goal.returns-in-Some
returns-in-Some c =
    entry_is_noted c.args.self.now c.note_all.new.self c.put_seat.new.self c.args.entry.now c.plus-all.result c.in-Some.seat c.noted_seat-noted.result
    c.note_all.ensures c.put_seat.ensures.puts c.put_seat.ensures.put (search rules) (search rules) c.noted_seat-noted.ensures.noted
