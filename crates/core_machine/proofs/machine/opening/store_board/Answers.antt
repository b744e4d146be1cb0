use Rattle.std.proofs.Common.{◌∙◌, arith}
use Rattle.heap_model.specs.Board.{board_fragments}
use Rattle.core_machine.proofs.machine_lemmas.BoardPlace.{take-range_with_len}
use Rattle.core_machine.proofs.machine_lemmas.Opens.{put_boards_one_more}
use Rattle.core_machine.proofs.machine.opening.store_board.Goals as goal

pub loop-position-preserved : goal.loop-position-preserved
loop-position-preserved c = record {
  table = c.store.ensures.table ∙ c.loop-position.invariant.table;
  board = λ a within. rw (c.store.ensures.put, c.word-word.ensures, c.board_fields.ensures, c.board_fragments-fragments.ensures, take-range_with_len 16 (board_fragments c.args.heap.now) (omega (arith, c.requires.limits.board_fits))) (put_boards_one_more c.args.heap.now c.loop-position.words c.loop-position.position a _ c.loop-position.invariant.table c.requires.limits.some_group (omega (arith, c.loop-position-test.true, c.board_fragments-fragments.ensures, c.requires.limits.board_fits)) within (c.loop-position.invariant.board a within));
}
