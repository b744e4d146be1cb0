use Rattle.heap_runs.proofs.running_seats.run_seats.Given as goal

abbrev pub ghosts-run_named : goal.ghosts-run_named
ghosts-run_named g a = record { table = a.paced.collector.holder.table; heap = a.paced.collector.holder.heap; before = a.paced.collector.holder.known.collector.log }
