use Rattle.heap_table.proofs.collector.CollectorHolder.next_seat.Given as goal

abbrev pub ghosts-hand_out : goal.ghosts-hand_out
ghosts-hand_out g a = record { heap = a._heap.now }
