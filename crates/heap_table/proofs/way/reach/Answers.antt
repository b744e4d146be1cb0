use Rattle.std.proofs.Common.{◌≡◌, ℕ, None, sym, ap, ◌∙◌, arith}
use Rattle.heap_words.specs.Loaded.{array_length_of}
use Rattle.core_machine.specs.seat.Access.{part_of}
use Rattle.core_machine.proofs.seat_lemmas.StepNeeds.{within_heap_is_small}
use Rattle.heap_words.specs.Loaded.{pointer_in}
use Rattle.heap_table.specs.Ahead.{seat_in, on_way}
use Rattle.heap_table.proofs.Ways.{near_is_reached, none_where_not_some}
use Rattle.heap_table.proofs.way.reach.Goals as goal

pub link_in-requires : goal.link_in-requires
link_in-requires g c = within_heap_is_small c.args.heap.now (pointer_in 0 c.args.meta) c.requires.keeps.limits c.requires.leads

pub returns-then-field-lt2-clause-at : goal.returns-then-field-lt2-clause-at
returns-then-field-lt2-clause-at g c =
    let seat = c.args.party.now.seat in
    let call = c.args.command.now in
    let plain : array_length_of c.args.meta ≡ None = sym c.array_length.ensures ∙ none_where_not_some c.array_length.result (sym c.is_some.ensures ∙ c.if-is_some.false) in (
      seat.address,
      near_is_reached c.args.heap.now c.args.number seat call c.args.head c.args.meta (seat_in c.args.token.now.me) c.requires.at plain (omega (arith, c.requires.field, c.if-field-lt2.true))
          ∙ ap (λ (n : ℕ). on_way seat call c.args.head 0 (part_of n) seat.address) c.requires.field,
    )
