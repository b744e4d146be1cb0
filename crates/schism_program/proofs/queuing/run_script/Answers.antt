use Rattle.std.proofs.Common.{inl, inr, refl, subst}
use Rattle.heap_queue.specs.declared.queue_fault.QueueFault.TheVariants.{Full}
use Rattle.heap_queue.specs.Running.{IsFaultOf}
use Rattle.heap_queue.specs.SeatScripts.{seat_scripts}
use Rattle.schism_program.proofs.QueueRuns.{board_of_queue}
use Rattle.schism_program.proofs.queuing.run_script.Goals as goal

pub tell_queue-requires-clause-board : goal.tell_queue-requires-clause-board
tell_queue-requires-clause-board g c = board_of_queue c.args.script.now c.requires

pub returns-in_ok-text-in-Ok : goal.returns-in_ok-text-in-Ok
returns-in_ok-text-in-Ok g c =
    let script = c.args.script.now in
    inr (record {
      some_left = c.in-Ok.ensures.room;
      ran = c.in-Ok.ran;
      has_run = c.in-Ok.ensures.ran;
      its_table = refl;
      tells = c.in_ok-text-in-Ok.ensures (seat_scripts script) c.in-Ok.ensures.ran;
    })

pub returns-in_ok-text-in-Err-Full : goal.returns-in_ok-text-in-Err-Full
returns-in_ok-text-in-Err-Full g c =
    let heap = c.args.script.now.heap in
    let full : IsFaultOf heap (Full c.in-Err-Full.field-0-0 c.in-Err-Full.field-0-1) = subst (IsFaultOf heap) c.in-Err-Full.field-0-is c.in-Err-Full.ensures.fault in
    inl (record { all_taken = full.2; says = c.in_ok-text-in-Err-Full.ensures; unclosed = refl })
