use Rattle.std.proofs.Common.{◌+◌, ◌-◌, ◌%◌, ◌^◌, ◌==◌, sym, ap, ◌∙◌, bit_and, bit_or}
use prog.Atomic.{either}
use Rattle.core_machine.specs.declared.step.operation.Operation.TheVariants.{Load, Store, Exchange, CompareExchange, Or, And, Add, Subtract}
use Rattle.core_machine.specs.table.Layout.{index_of}
use Rattle.heap_table.specs.Told.{Tells}
use Rattle.heap_table.proofs.Performed.{allows_by_equal_word, allows_store_of_word, word_after_is_operations, stored_word_is_told, choice_is_either, difference_moves_into_sum}
use Rattle.heap_table.proofs.touch.touch.Goals as goal

pub load-requires : goal.load-requires
load-requires g c =
    let tells = Tells g.T.Telling.becomes g.T.Telling.told c.args.token.now.me in (
      c.requires.table,
      rw c.requires.size (c.index-word.ensures.within.0 (rw c.touch-address.ensures.address c.requires.word)),
      allows_by_equal_word _ _ _ _ _ _ _ tells (c.index-word.ensures.index ∙ ap (index_of c.args.heap.now) c.touch-address.ensures.address) (λ n. n) (word_after_is_operations _ Load (sym c.touch-address.ensures.operation ∙ c.in-Load.is)) c.requires.rule,
    )

pub store-requires : goal.store-requires
store-requires g c =
    let tells = Tells g.T.Telling.becomes g.T.Telling.told c.args.token.now.me in
    let stores = sym c.touch-address.ensures.operation ∙ c.in-Store.is in (
      c.requires.table,
      rw c.requires.size (c.index-word.ensures.within.0 (rw c.touch-address.ensures.address c.requires.word)),
      allows_store_of_word _ _ _ _ _ _ _ tells (c.index-word.ensures.index ∙ ap (index_of c.args.heap.now) c.touch-address.ensures.address) c.in-Store.new (word_after_is_operations _ (Store c.in-Store.new) stores) (stored_word_is_told _ _ _ stores c.requires.stored) c.requires.rule,
    )

pub swap-requires : goal.swap-requires
swap-requires g c =
    let tells = Tells g.T.Telling.becomes g.T.Telling.told c.args.token.now.me in (
      c.requires.table,
      rw c.requires.size (c.index-word.ensures.within.0 (rw c.touch-address.ensures.address c.requires.word)),
      allows_by_equal_word _ _ _ _ _ _ _ tells (c.index-word.ensures.index ∙ ap (index_of c.args.heap.now) c.touch-address.ensures.address) (λ n. c.in-Exchange.new) (word_after_is_operations _ (Exchange c.in-Exchange.new) (sym c.touch-address.ensures.operation ∙ c.in-Exchange.is)) c.requires.rule,
    )

pub compare_exchange-requires : goal.compare_exchange-requires
compare_exchange-requires g c =
    let tells = Tells g.T.Telling.becomes g.T.Telling.told c.args.token.now.me in
    let old = c.in-CompareExchange.old in
    let new = c.in-CompareExchange.new in (
      c.requires.table,
      rw c.requires.size (c.index-word.ensures.within.0 (rw c.touch-address.ensures.address c.requires.word)),
      allows_by_equal_word _ _ _ _ _ _ _ tells (c.index-word.ensures.index ∙ ap (index_of c.args.heap.now) c.touch-address.ensures.address) (λ n. either (n == old) new n)
          (λ n. word_after_is_operations _ (CompareExchange old new) (sym c.touch-address.ensures.operation ∙ c.in-CompareExchange.is) n ∙ choice_is_either (n == old) new n) c.requires.rule,
    )

pub fetch_or-requires : goal.fetch_or-requires
fetch_or-requires g c =
    let tells = Tells g.T.Telling.becomes g.T.Telling.told c.args.token.now.me in (
      c.requires.table,
      rw c.requires.size (c.index-word.ensures.within.0 (rw c.touch-address.ensures.address c.requires.word)),
      allows_by_equal_word _ _ _ _ _ _ _ tells (c.index-word.ensures.index ∙ ap (index_of c.args.heap.now) c.touch-address.ensures.address) (λ n. bit_or n c.in-Or.bits) (word_after_is_operations _ (Or c.in-Or.bits) (sym c.touch-address.ensures.operation ∙ c.in-Or.is)) c.requires.rule,
    )

pub fetch_and-requires : goal.fetch_and-requires
fetch_and-requires g c =
    let tells = Tells g.T.Telling.becomes g.T.Telling.told c.args.token.now.me in (
      c.requires.table,
      rw c.requires.size (c.index-word.ensures.within.0 (rw c.touch-address.ensures.address c.requires.word)),
      allows_by_equal_word _ _ _ _ _ _ _ tells (c.index-word.ensures.index ∙ ap (index_of c.args.heap.now) c.touch-address.ensures.address) (λ n. bit_and n c.in-And.bits) (word_after_is_operations _ (And c.in-And.bits) (sym c.touch-address.ensures.operation ∙ c.in-And.is)) c.requires.rule,
    )

pub fetch_add-requires : goal.fetch_add-requires
fetch_add-requires g c =
    let tells = Tells g.T.Telling.becomes g.T.Telling.told c.args.token.now.me in (
      c.requires.table,
      rw c.requires.size (c.index-word.ensures.within.0 (rw c.touch-address.ensures.address c.requires.word)),
      allows_by_equal_word _ _ _ _ _ _ _ tells (c.index-word.ensures.index ∙ ap (index_of c.args.heap.now) c.touch-address.ensures.address) (λ n. (n + c.in-Add.number) % 2 ^ 64) (word_after_is_operations _ (Add c.in-Add.number) (sym c.touch-address.ensures.operation ∙ c.in-Add.is)) c.requires.rule,
    )

pub fetch_sub-requires : goal.fetch_sub-requires
fetch_sub-requires g c =
    let tells = Tells g.T.Telling.becomes g.T.Telling.told c.args.token.now.me in (
      c.requires.table,
      rw c.requires.size (c.index-word.ensures.within.0 (rw c.touch-address.ensures.address c.requires.word)),
      allows_by_equal_word _ _ _ _ _ _ _ tells (c.index-word.ensures.index ∙ ap (index_of c.args.heap.now) c.touch-address.ensures.address) (λ n. (n + (2 ^ 64 - c.in-Subtract.number)) % 2 ^ 64)
          (λ n. word_after_is_operations _ (Subtract c.in-Subtract.number) (sym c.touch-address.ensures.operation ∙ c.in-Subtract.is) n ∙ ap (λ k. k % 2 ^ 64) (difference_moves_into_sum n c.in-Subtract.number search)) c.requires.rule,
    )
