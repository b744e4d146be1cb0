use Rattle.core_machine.specs.machine.Machine.{after_begin}
use Rattle.heap_table.specs.Ahead.{seat_in}
use Rattle.heap_table.specs.Begun.{next_seat}
use Rattle.heap_table.specs.Told.{ToldAtStep}
use Rattle.heap_table.specs.Views.{seat_view}
use Rattle.heap_table.proofs.ahead.step_first.Given as goal

abbrev pub ghosts-touch : goal.ghosts-touch
ghosts-touch a = record {
  becomes = λ n. seat_view a._number (next_seat a.heap.now a._number (after_begin a.heap.now (seat_in a.token.now.me) a._party.now) n);
  told = ToldAtStep a.heap.now a._number (after_begin a.heap.now (seat_in a.token.now.me) a._party.now);
}
