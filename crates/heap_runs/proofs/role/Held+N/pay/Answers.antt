use Rattle.heap_runs.proofs.RoleOn.{is_of_run_after_room, is_of_run_after_slack}
use Rattle.heap_runs.proofs.role.Held+N.pay.Goals as goal

pub invariant_of-self-2 : goal.invariant_of-self-2
invariant_of-self-2 g c =
    let ready = is_of_run_after_room g.N.HeldName.table g.N.HeldName.heap g.N.HeldName.before c.args.self.now.collector c.room.new.self c.room.ensures.stays c.args.self.now.of_run in
    record {
      of_run = is_of_run_after_slack g.N.HeldName.table g.N.HeldName.heap g.N.HeldName.before c.slack.result.made c.room.new.self c.slack.new.collector c.slack.ensures.each c.slack.ensures.made ready;
    }
