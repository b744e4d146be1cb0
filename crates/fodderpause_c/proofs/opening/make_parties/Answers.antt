use Rattle.fodderpause_c.proofs.Opened.{all_between_calls}
use Rattle.fodderpause_c.proofs.opening.make_parties.Goals as goal

pub boxed-requires : goal.boxed-requires
boxed-requires c = let made = c.in_ok-holders in all_between_calls made.holder c.args.heap made.holders.items made.ensures.each

pub returns : goal.returns
returns c =
    let made = c.in_ok-holders in
    record {
      held = made.holder;
      collector_is = c.in_ok-collector.ensures;
      of_heap = made.ensures.heap;
      opening = made.ensures.known;
      turns = made.ensures.turns;
      all = made.holders.items;
      seats_are = c.in_ok-seats.ensures;
      numbers = made.ensures.numbers;
      each = made.ensures.each;
    }
