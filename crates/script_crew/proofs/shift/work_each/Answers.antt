use Rattle.std.proofs.Common.{◌≡◌, ◌<◌, length, get_or, map, Result, sym, ap, subst, ◌∙◌, arith}
use Rattle.std.specs.Prelude.{IfOk}
use Rattle.std.proofs.lemmas.List.{length-map, get_or-map}
use Rattle.std.proofs.lemmas.Option.{slice_get_within, get_or_from_slice_get}
use Rattle.heap_model.specs.declared.fault.Memory.{Memory}
use Rattle.heap_table.specs.SeatHeld.{SeatHeld}
use Rattle.script_crew.specs.declared.worker.Worked.{Worked}
use Rattle.script_crew.specs.declared.worker.Worker.{Worker}
use Rattle.script_crew.specs.Working.{HasWorked}
use Rattle.script_crew.proofs.WholeCrew.{seats_are_numbered}
use Rattle.script_crew.proofs.shift.work_each.Goals as goal

pub returns : goal.returns
returns g c =
    let queue = c.args.site.now.queue.now in
    let jobs = c.args.site.now.jobs.now in
    let table = g.N.HeldName.table in
    let heap = g.N.HeldName.heap in
    let workers = c.args.workers.items in
    let done = c.in_ok-done.field-0.items in
    let seat_of : Worker → SeatHeld = λ worker. worker.seat in
    let as_many : length done ≡ length (map seat_of workers) = sym c.in_ok-done.field-0.ok.0 ∙ (c.in_ok-done.ensures.len ∙ (c.args.workers.ok.0 ∙ sym (length-map workers seat_of))) in
    record {
      numbered = seats_are_numbered workers _ c.args.workers.ok.0 c.requires.numbered;
      each_once = as_many;
      worked = λ position old end was now.
          let few : position < length workers = omega (arith, slice_get_within done position end now, as_many, length-map workers seat_of) in
          let gives = (c.in_ok-done.ensures.each position end few).1 in
          let own : gives.job.seat ≡ old =
          ap seat_of (sym (gives.job_is gives.job)) ∙ (sym (get_or-map seat_of workers position gives.job old few) ∙ get_or_from_slice_get (map seat_of workers) position old old was) in
          let met : IfOk (get_or done position end) (HasWorked queue jobs table heap gives.job.seat) = gives.call.met in
          subst (λ (one : Result Worked Memory). IfOk one (HasWorked queue jobs table heap old)) (get_or_from_slice_get done position end end now)
          (subst (λ seat. IfOk (get_or done position end) (HasWorked queue jobs table heap seat)) own met);
    }
