use Rattle.heap_table.specs.Opened.{IsOpened}
use Rattle.library_tests.proofs.FirstCalls.{first_is_between_calls}
use Rattle.library_tests.proofs.OfTable.{is_of_table_of_opened, is_same_seat_of_equal}
use Rattle.library_tests.proofs.Popped.{all_of_last_two}
use Rattle.library_tests.proofs.tests.opening.two_seats.Goals as goal

pub make-requires-2 : goal.make-requires-2
make-requires-2 g c =
    let made = c.in_ok-holders in
    let opened = all_of_last_two (IsOpened made.collector.table c.args.heap) made.holders.items c.pop.new.self.items c.pop-2.new.self.items c.in-Some-pop.first c.in-Some.second c.in-Some.ensures.items c.in-Some-pop.ensures.items made.ensures.each in
    record { between = first_is_between_calls c.args.heap c.in-Some-pop.first opened.0.seat_is }

pub make-requires-3 : goal.make-requires-3
make-requires-3 g c =
    let made = c.in_ok-holders in
    let opened = all_of_last_two (IsOpened made.collector.table c.args.heap) made.holders.items c.pop.new.self.items c.pop-2.new.self.items c.in-Some-pop.first c.in-Some.second c.in-Some.ensures.items c.in-Some-pop.ensures.items made.ensures.each in
    record { between = first_is_between_calls c.args.heap c.in-Some.second opened.1.seat_is }

pub returns-clause-first : goal.returns-clause-first
returns-clause-first g c =
    let made = c.in_ok-holders in
    let opened = all_of_last_two (IsOpened made.collector.table c.args.heap) made.holders.items c.pop.new.self.items c.pop-2.new.self.items c.in-Some-pop.first c.in-Some.second c.in-Some.ensures.items c.in-Some-pop.ensures.items made.ensures.each in
    is_of_table_of_opened made.collector c.args.heap c.in-Some-pop.first c.make-2.result made.ensures.heap opened.0 (is_same_seat_of_equal c.in-Some-pop.first c.make-2.result c.make-2.ensures)

pub returns-clause-second : goal.returns-clause-second
returns-clause-second g c =
    let made = c.in_ok-holders in
    let opened = all_of_last_two (IsOpened made.collector.table c.args.heap) made.holders.items c.pop.new.self.items c.pop-2.new.self.items c.in-Some-pop.first c.in-Some.second c.in-Some.ensures.items c.in-Some-pop.ensures.items made.ensures.each in
    is_of_table_of_opened made.collector c.args.heap c.in-Some.second c.make-3.result made.ensures.heap opened.1 (is_same_seat_of_equal c.in-Some.second c.make-3.result c.make-3.ensures)
