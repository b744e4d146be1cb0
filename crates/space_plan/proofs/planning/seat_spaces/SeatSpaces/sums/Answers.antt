use Rattle.std.proofs.Common.{◌≡◌, ◌≤◌, ap, ◌∙◌, arith}
use Rattle.space_plan.specs.plan.Seats.{reserve_of, since_of, space_at}
use Rattle.space_plan.proofs.plan_lemmas.SeatSums.{reserves_are_told, reserves_fit, since_fits, since_is_told, sum_below-more}
use Rattle.space_plan.proofs.planning.seat_spaces.SeatSpaces.sums.Goals as goal

pub loop-seat-preserved : goal.loop-seat-preserved
loop-seat-preserved c =
    let spaces = c.args.self.now.spaces in
    let i = c.loop-seat.seat in
    let invariant = c.loop-seat.invariant in
    let reserve : c.reserve-reserves.result ≡ reserve_of (space_at spaces i) = c.reserve-reserves.ensures ∙ ap reserve_of c.space-space.ensures in
    let since : c.since-since.result ≡ since_of (space_at spaces i) = c.since-since.ensures ∙ ap since_of c.space-space.ensures in
    let few = c.requires.few i in
    record {
      reserves = sum_below-more reserve_of spaces i _ _ invariant.reserves reserve;
      since = sum_below-more since_of spaces i _ _ invariant.since since;
      few_reserves = omega (arith, reserve, invariant.few_reserves, few.taken_then);
      few_since = omega (arith, since, invariant.few_since, few.taken);
    }

pub returns-clause-tells : goal.returns-clause-tells
returns-clause-tells c = λ heap history is tells.
    let count : c.loop-seat.seat ≡ heap.seats = omega (arith, is, c.loop-seat-test.false, c.loop-seat.auto.seat-end) in
    record {
      reserves = c.loop-seat.invariant.reserves ∙ reserves_are_told heap c.args.self.now history c.loop-seat.seat count tells;
      since = c.loop-seat.invariant.since ∙ since_is_told heap c.args.self.now history c.loop-seat.seat count tells;
    }

pub returns-clause-fits : goal.returns-clause-fits
returns-clause-fits c = λ n fits.
    let few : c.loop-seat.seat ≤ 16 = omega (arith, c.loop-seat.auto.seat-end, c.requires.seats) in
    record {
      reserves = omega (arith, c.loop-seat.invariant.reserves, reserves_fit c.args.self.now n c.loop-seat.seat few fits);
      since = omega (arith, c.loop-seat.invariant.since, since_fits c.args.self.now n c.loop-seat.seat few fits);
    }
