use Rattle.std.proofs.Common.{Some}
use Rattle.std.proofs.lemmas.List.Elements.{All-pop}
use Rattle.heap_table.specs.Opened.{IsOpened}
use Rattle.heap_caller.proofs.Opened.{between_calls, of_table}
use Rattle.heap_caller.proofs.opening.open.Goals as goal

pub make-requires-2 : goal.make-requires-2
make-requires-2 c =
    let made = c.in_ok-holders in
    let last = All-pop (IsOpened made.collector.table c.args.heap) made.holders.items c.pop.new.self.items (Some c.in-Some.second) c.in-Some.ensures.items made.ensures.each in
    let next = All-pop (IsOpened made.collector.table c.args.heap) c.pop.new.self.items c.pop-2.new.self.items (Some c.in-Some-pop.first) c.in-Some-pop.ensures.items last.0 in
    record { between = between_calls made.collector c.args.heap c.in-Some-pop.first next.1 }

pub make-requires-3 : goal.make-requires-3
make-requires-3 c =
    let made = c.in_ok-holders in
    let last = All-pop (IsOpened made.collector.table c.args.heap) made.holders.items c.pop.new.self.items (Some c.in-Some.second) c.in-Some.ensures.items made.ensures.each in
    record { between = between_calls made.collector c.args.heap c.in-Some.second last.1 }

pub invariant_of-result : goal.invariant_of-result
invariant_of-result c =
    let made = c.in_ok-holders in
    let last = All-pop (IsOpened made.collector.table c.args.heap) made.holders.items c.pop.new.self.items (Some c.in-Some.second) c.in-Some.ensures.items made.ensures.each in
    let next = All-pop (IsOpened made.collector.table c.args.heap) c.pop.new.self.items c.pop-2.new.self.items (Some c.in-Some-pop.first) c.in-Some-pop.ensures.items last.0 in
    record {
      first_is_of_table = of_table made.collector c.args.heap c.in-Some-pop.first next.1 c.make-2.result c.make-2.ensures made.ensures.heap;
      second_is_of_table = of_table made.collector c.args.heap c.in-Some.second last.1 c.make-3.result c.make-3.ensures made.ensures.heap;
    }
