use Rattle.run_tests.proofs.tests.seat_runs.collect_of.Given as goal

abbrev pub ghosts-collect_named : goal.ghosts-collect_named
ghosts-collect_named g a = record { table = a.collector.holder.table; heap = a.collector.holder.heap; before = a.collector.holder.known.collector.log }
