use Rattle.std.proofs.Common.{sym, ap, ◌∙◌, length}
use Rattle.heap_table.proofs.OpeningHolders.{rule_holds_at_opening, keeps_collector_at_opening, each_seat_opens}
use Rattle.heap_table.proofs.collector.CollectorHolder.opening.Goals as goal

pub of_words-requires : goal.of_words-requires
of_words-requires g c = rw c.as_slice.ensures.value (rule_holds_at_opening c.args.heap c.in_ok-words.words.items c.requires c.in_ok-words.ensures.length c.in_ok-words.ensures.open)

pub invariant_of-result : goal.invariant_of-result
invariant_of-result g c =
    let made = c.in_ok-shared.ensures in
    let arc = c.in_ok-table.ensures.ok in
    rw c.opening.ensures.collector
    (keeps_collector_at_opening c.args.heap c.in_ok-words.words.items c.requires c.in_ok-words.ensures.length c.in_ok-words.ensures.open _ _ _ _ _
    (made.2 ∙ ap (λ t. t.shared.table_id) (sym arc)) (ap (λ t. t.shared.table_id.words) arc ∙ made.0 ∙ ap length c.as_slice.ensures.value) (ap (λ t. t.shared.table_id.slots) arc ∙ made.1)
    (ap (λ t. t.shared.key) arc ∙ made.5) made.4 c.in_ok-seat_slots.ensures)

pub returns-clause-opens : goal.returns-clause-opens
returns-clause-opens g c = each_seat_opens c.args.heap c.in_ok-words.words.items c.requires c.in_ok-words.ensures.length c.in_ok-words.ensures.open
