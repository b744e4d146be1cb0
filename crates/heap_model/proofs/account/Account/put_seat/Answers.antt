use Rattle.std.proofs.Common.{set, ap}
use Rattle.heap_model.specs.account.Books.{Books}
use Rattle.heap_model.proofs.account.Account.put_seat.Goals as goal

pub returns-clause-puts : goal.returns-clause-puts
returns-clause-puts c = ap (λ (books : Books). record books { seats = set books.seats c.args.seat c.args.noted }) c.self.view_is
