use Rattle.std.proofs.Common.{All, subst}
use Rattle.heap_table.specs.Opened.{IsOpened}
use Rattle.heap_table.specs.SeatHeld.{SeatHeld}
use Rattle.library_tests.proofs.FirstCalls.{first_is_between_calls}
use Rattle.library_tests.proofs.Popped.{all_of_popped_list}
use Rattle.library_tests.proofs.tests.opening.lone_seat.Goals as goal

pub make-requires-2 : goal.make-requires-2
make-requires-2 c =
    let P : SeatHeld → Type 0 = IsOpened c.in_ok-holders.collector.table c.args.heap in
    let opened = (all_of_popped_list P c.pop.new.self.items c.in-Some.holder (subst (All P) c.in-Some.ensures.items c.in_ok-holders.ensures.each)).1 in
    record { between = first_is_between_calls c.args.heap c.in-Some.holder opened.seat_is }
