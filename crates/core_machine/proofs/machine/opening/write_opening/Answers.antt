use Rattle.std.proofs.Common.{◌≡◌, ℕ, ◌*◌, List, refl, ◌∙◌, ap, arith}
use Rattle.heap_model.specs.Board.{board_fragments}
use Rattle.core_machine.proofs.Terms.{Control, at, put}
use Rattle.core_machine.specs.declared.table.address.Address.TheVariants.{Spot}
use Rattle.core_machine.specs.machine.Opening.{board_group, with_board}
use Rattle.core_machine.proofs.machine_lemmas.BoardPlace.{shifted_ones_are_lowest_bits}
use Rattle.core_machine.proofs.machine_lemmas.Opens.{words_are_opening_words, zeros_read_zero, spot_word_of}
use Rattle.core_machine.proofs.machine.opening.write_opening.Goals as goal

pub returns-clause-open : goal.returns-clause-open
returns-clause-open c =
    let heap = c.args.heap.now in
    let left = c.leave_without_seats.new.words in
    let made : c.store-2.new.words ≡ put heap (put heap left Spot spot_word_of) (Control 0) (board_group heap) =
    rw (c.store-2.ensures.put, c.store.ensures.put, c.pack.ensures, c.pack-2.ensures, c.board_fragments.ensures, shifted_ones_are_lowest_bits (board_fragments heap) (omega (arith, c.requires.limits.board_fits))) refl in
    λ a within. words_are_opening_words heap c.args.words.now left c.store_board.new.words c.requires.limits.some_group c.leave_without_seats.ensures.table a within
    (zeros_read_zero heap c.args.words.now a c.requires.zeros) (c.leave_without_seats.ensures.left a within)
    (c.store_board.ensures.board a within ∙ ap (λ (words : List ℕ). with_board heap (4 * board_fragments heap) a (at heap words a)) made)
