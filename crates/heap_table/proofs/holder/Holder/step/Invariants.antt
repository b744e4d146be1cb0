use Rattle.heap_table.specs.Begun.{next_seat}
use Rattle.heap_table.specs.Told.{ToldAtStep}
use Rattle.heap_table.specs.Views.{seat_view}
use Rattle.heap_table.proofs.holder.Holder.step.Given as goal

abbrev pub ghosts-touch : goal.ghosts-touch
ghosts-touch g a = record { becomes = λ n. seat_view a._number (next_seat a.heap.now a._number a._party.now.seat n); told = ToldAtStep a.heap.now a._number a._party.now.seat }
