use Rattle.std.proofs.Common.{◌≡◌, List, Vec, Global, Result, map, sym, subst, ◌∙◌}
use Rattle.std.specs.Prelude.{IfOk, slice_index_or}
use Rattle.std.proofs.lemmas.Option.{slice_get_within, get_or_from_slice_get}
use Rattle.std.proofs.lemmas.Result.{IfOk-from_err}
use Rattle.heap_model.specs.declared.fault.Memory.{Memory}
use Rattle.heap_table.specs.SeatHeld.{SeatHeld}
use Rattle.heap_runs.proofs.WorkersEnd.{if_ok_implied}
use Rattle.heap_queue.specs.declared.queue_command.QueueCommand.{QueueCommand}
use Rattle.heap_queue.specs.Running.{script_at}
use Rattle.heap_queue.specs.Working.{HasWorked, HaveEnded, HaveWorked}
use Rattle.heap_queue.proofs.ServedSeats.{all_have_worked}
use Rattle.heap_queue.proofs.workers.serve_seats.Goals as goal

pub returns-in_err-done : goal.returns-in_err-done
returns-in_err-done g c = IfOk-from_err c.from_residual.result _ c.from_residual.ensures.0

pub returns : goal.returns
returns g c =
    let table = g.N.HeldName.table in
    let heap = g.N.HeldName.heap in
    let scripts : List (List QueueCommand) = map (λ (script : Vec QueueCommand Global). script.items) c.args.scripts.now in
    let seats : List SeatHeld = c.args.seats.items in
    let done : List (Result SeatHeld Memory) = c.in_ok-done.field-0.items in
    let ended : HaveEnded table heap scripts seats done = record {
      each_once = sym c.in_ok-done.field-0.ok.0 ∙ c.in_ok-done.ensures.len ∙ c.args.seats.ok.0;
      each = λ position old end was now.
          let gives = (c.in_ok-done.ensures.each position end (slice_get_within seats position old was)).1 in
          let met : IfOk (slice_index_or done position end) (HasWorked table heap gives.job.number (script_at scripts gives.job.number)) = gives.call.met in
          let job : gives.job ≡ old = sym (gives.job_is old) ∙ get_or_from_slice_get seats position old old was in
          subst (λ (end : Result SeatHeld Memory). IfOk end (HasWorked table heap old.number (script_at scripts old.number))) (get_or_from_slice_get done position end end now)
          (subst (λ (held : SeatHeld). IfOk (slice_index_or done position end) (HasWorked table heap held.number (script_at scripts held.number))) job met);
    } in
    if_ok_implied _ (λ (back : Vec SeatHeld Global). HaveWorked table heap scripts seats back.items) c.each_seat.result (λ back is. all_have_worked table heap scripts seats back.items done ended is) c.each_seat.ensures
