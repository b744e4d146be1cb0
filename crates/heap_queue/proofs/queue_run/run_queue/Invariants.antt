use Rattle.heap_queue.proofs.queue_run.run_queue.Given as goal

-- the name of the table, the heap and the log that the collector has
abbrev pub ghosts-run_named : goal.ghosts-run_named
ghosts-run_named g a = record { table = a.collector.holder.table; heap = a.collector.holder.heap; before = a.collector.holder.known.collector.log }
