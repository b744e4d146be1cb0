use Rattle.std.proofs.Common.{◌≢◌, ◌<◌, length, arith, false, get_or-set_other, get_or-set_same, below_more, length-set, ◌∙◌}
use Rattle.heap_model.proofs.account.Account.behind_now.Goals as goal

pub loop-seat-preserved : goal.loop-seat-preserved
loop-seat-preserved c =
    let lt : c.loop-seat.seat < length c.loop-seat.behind = omega (arith, c.loop-seat.invariant.0, c.self.invariant.heap_fits.seats_fit) in (
      length-set _ _ _ ∙ c.loop-seat.invariant.0,
      below_more _ _
          (λ number h. let ne : number ≢ c.loop-seat.seat = omega arith in rw get_or-set_other (c.loop-seat.invariant.1 number h))
          (get_or-set_same c.loop-seat.behind c.loop-seat.seat c.is_behind_now.result false lt ∙ c.is_behind_now.ensures),
    )
