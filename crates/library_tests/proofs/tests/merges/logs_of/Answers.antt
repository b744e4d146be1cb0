use Rattle.std.proofs.Common.{ℕ, ◌∷◌, ◌++◌, ◌∙◌, [], Vec, Global, ap, map, sym, zero-add}
use Rattle.std.specs.List.{filter, range_with_len}
use Rattle.std.proofs.lemmas.List.{map_push}
use Rattle.std.proofs.lemmas.List.FromFn.{map-range_with_len_more}
use Rattle.heap_model.specs.declared.entry.Entry.{Entry}
use Rattle.heap_model.specs.account.Effects.{is_of}
use Rattle.library_tests.proofs.tests.merges.logs_of.Goals as goal

pub loop-number-preserved : goal.loop-number-preserved
loop-number-preserved c =
    let items = λ (log : Vec Entry Global). log.items in
    let own = λ (number : ℕ). filter (is_of number) c.args.entries.now in
    let number = c.loop-number.number in
    ap (map items) c.in_ok-push.ensures.items ∙ map_push items c.loop-number.logs.items c.in_ok-seat_log.field-0
    ∙ ap (λ logs. logs ++ c.in_ok-seat_log.field-0.items ∷ []) c.loop-number.invariant
    ∙ ap (λ log. map own (range_with_len 0 number) ++ log ∷ []) c.in_ok-seat_log.ensures
    ∙ sym (map-range_with_len_more own 0 number number (zero-add number))
