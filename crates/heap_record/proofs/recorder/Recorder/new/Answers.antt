use Rattle.std.proofs.Common.{ap, arith}
use Rattle.heap_model.specs.account.Turned.{without_turned}
use Rattle.heap_record.specs.Recorded.{AnyEvents}
use Rattle.heap_record.proofs.Leading.{events_lead_to_start}
use Rattle.heap_record.proofs.recorder.Recorder.new.Goals as goal

pub invariant_of-result : goal.invariant_of-result
invariant_of-result g c =
    (events_lead_to_start AnyEvents c.args.machine.heap c.args.machine.state (without_turned c.new.result.items) c.heap.ensures.machine.limits c.requires (ap without_turned c.new.ensures.items) tt, record { own_room = omega arith; listed_room = omega arith })
