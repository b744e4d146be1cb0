use Rattle.std.proofs.Common.{arith}
use Rattle.core_machine.proofs.seat_lemmas.StepNeeds.{target_is_register, adds_nothing, budget_adds_nothing}
use Rattle.core_machine.proofs.seat.SeatParty.learn_making.Goals as goal

pub learn_budget-requires-clause-limits : goal.learn_budget-requires-clause-limits
learn_budget-requires-clause-limits g c = c.requires.limits

pub learn_budget-requires-clause-grants : goal.learn_budget-requires-clause-grants
learn_budget-requires-clause-grants g c = rw c.in-Granting.is at c.requires.at_point

pub learn_budget-requires-clause-cursor : goal.learn_budget-requires-clause-cursor
learn_budget-requires-clause-cursor g c = c.requires.fits.own.cursor_within

pub learn_budget-requires-clause-few : goal.learn_budget-requires-clause-few
learn_budget-requires-clause-few g c = c.requires.fits.own.small_reserve

pub learn_withdrawal-requires : goal.learn_withdrawal-requires
learn_withdrawal-requires g c = c.requires.spare

pub learn_claim-requires-clause-limits : goal.learn_claim-requires-clause-limits
learn_claim-requires-clause-limits g c = c.requires.limits

pub learn_claim-requires-clause-cursor : goal.learn_claim-requires-clause-cursor
learn_claim-requires-clause-cursor g c = c.requires.fits.own.cursor_within

pub learn_claim-requires-clause-gathers : goal.learn_claim-requires-clause-gathers
learn_claim-requires-clause-gathers g c = rw c.in-Gathering.is at c.requires.at_point

pub learn_claim-requires-clause-spare : goal.learn_claim-requires-clause-spare
learn_claim-requires-clause-spare g c = c.requires.spare

pub learn_give_back-requires-clause-refuses : goal.learn_give_back-requires-clause-refuses
learn_give_back-requires-clause-refuses g c =
    let at = rw c.in-GivingBack.is at c.requires.at_point in
    at.0

pub learn_give_back-requires-clause-some : goal.learn_give_back-requires-clause-some
learn_give_back-requires-clause-some g c =
    let at = rw c.in-GivingBack.is at c.requires.at_point in
    at.1

pub learn_give_back-requires-clause-spare : goal.learn_give_back-requires-clause-spare
learn_give_back-requires-clause-spare g c = c.requires.spare

pub learn_refusal-requires : goal.learn_refusal-requires
learn_refusal-requires g c = c.requires.spare

pub learn_listing-requires-clause-body : goal.learn_listing-requires-clause-body
learn_listing-requires-clause-body g c =
    let at = rw c.in-Listing.is at c.requires.at_point in
    at.0

pub learn_listing-requires-clause-within : goal.learn_listing-requires-clause-within
learn_listing-requires-clause-within g c =
    let at = rw c.in-Listing.is at c.requires.at_point in
    at.1

pub learn_store-requires-clause-body : goal.learn_store-requires-clause-body
learn_store-requires-clause-body g c =
    let at = rw c.in-Storing.is at c.requires.at_point in
    at.0

pub learn_store-requires-clause-within : goal.learn_store-requires-clause-within
learn_store-requires-clause-within g c =
    let at = rw c.in-Storing.is at c.requires.at_point in
    at.2

pub learn_birth-requires-clause-body : goal.learn_birth-requires-clause-body
learn_birth-requires-clause-body g c =
    let at = rw c.in-Bearing.is at c.requires.at_point in
    at.0

pub learn_birth-requires-clause-some : goal.learn_birth-requires-clause-some
learn_birth-requires-clause-some g c =
    let at = rw c.in-Bearing.is at c.requires.at_point in
    at.1

pub learn_birth-requires-clause-registers : goal.learn_birth-requires-clause-registers
learn_birth-requires-clause-registers g c =
    let at = rw c.in-Bearing.is at c.requires.at_point in
    target_is_register c.args.self.now.seat.command at.0.makes.in_range

pub learn_birth-requires-clause-spare : goal.learn_birth-requires-clause-spare
learn_birth-requires-clause-spare g c = c.requires.spare

pub returns-in-Granting-clause-seat : goal.returns-in-Granting-clause-seat
returns-in-Granting-clause-seat g c = rw c.in-Granting.is (adds_nothing _ _ c.learn_budget.ensures.seat)

pub returns-in-Granting-clause-spare : goal.returns-in-Granting-clause-spare
returns-in-Granting-clause-spare g c =
    let same = budget_adds_nothing c.args.heap.now c.args.self.now.seat c.args.found in
    rw (c.learn_budget.ensures.seat, same, c.learn_budget.ensures.spare) (omega arith, omega arith)

pub returns-in-Granting-clause-forgotten : goal.returns-in-Granting-clause-forgotten
returns-in-Granting-clause-forgotten g c = c.learn_budget.ensures.forgotten

pub returns-in-Withdrawing-clause-seat : goal.returns-in-Withdrawing-clause-seat
returns-in-Withdrawing-clause-seat g c = rw c.in-Withdrawing.is c.learn_withdrawal.ensures.seat

pub returns-in-Withdrawing-clause-spare : goal.returns-in-Withdrawing-clause-spare
returns-in-Withdrawing-clause-spare g c = c.learn_withdrawal.ensures.spare

pub returns-in-Withdrawing-clause-forgotten : goal.returns-in-Withdrawing-clause-forgotten
returns-in-Withdrawing-clause-forgotten g c = c.learn_withdrawal.ensures.forgotten

pub returns-in-Gathering-clause-seat : goal.returns-in-Gathering-clause-seat
returns-in-Gathering-clause-seat g c = rw c.in-Gathering.is c.learn_claim.ensures.seat

pub returns-in-Gathering-clause-spare : goal.returns-in-Gathering-clause-spare
returns-in-Gathering-clause-spare g c = c.learn_claim.ensures.spare

pub returns-in-Gathering-clause-forgotten : goal.returns-in-Gathering-clause-forgotten
returns-in-Gathering-clause-forgotten g c = c.learn_claim.ensures.forgotten

pub returns-in-GivingBack-clause-seat : goal.returns-in-GivingBack-clause-seat
returns-in-GivingBack-clause-seat g c = rw c.in-GivingBack.is c.learn_give_back.ensures.seat

pub returns-in-GivingBack-clause-spare : goal.returns-in-GivingBack-clause-spare
returns-in-GivingBack-clause-spare g c = c.learn_give_back.ensures.spare

pub returns-in-GivingBack-clause-forgotten : goal.returns-in-GivingBack-clause-forgotten
returns-in-GivingBack-clause-forgotten g c = c.learn_give_back.ensures.forgotten

pub returns-in-Refusing-clause-seat : goal.returns-in-Refusing-clause-seat
returns-in-Refusing-clause-seat g c = rw c.in-Refusing.is c.learn_refusal.ensures.seat

pub returns-in-Refusing-clause-spare : goal.returns-in-Refusing-clause-spare
returns-in-Refusing-clause-spare g c = c.learn_refusal.ensures.spare

pub returns-in-Refusing-clause-forgotten : goal.returns-in-Refusing-clause-forgotten
returns-in-Refusing-clause-forgotten g c = c.learn_refusal.ensures.forgotten

pub returns-in-Placing-clause-seat : goal.returns-in-Placing-clause-seat
returns-in-Placing-clause-seat g c = rw c.in-Placing.is (adds_nothing _ _ c.learn_spine.ensures.seat)

pub returns-in-Placing-clause-spare : goal.returns-in-Placing-clause-spare
returns-in-Placing-clause-spare g c = rw (c.learn_spine.ensures.seat, c.learn_spine.ensures.spare) (omega arith, omega arith)

pub returns-in-Placing-clause-forgotten : goal.returns-in-Placing-clause-forgotten
returns-in-Placing-clause-forgotten g c = c.learn_spine.ensures.forgotten

pub returns-in-Listing-clause-seat : goal.returns-in-Listing-clause-seat
returns-in-Listing-clause-seat g c = rw c.in-Listing.is (adds_nothing _ _ c.learn_listing.ensures.seat)

pub returns-in-Listing-clause-spare : goal.returns-in-Listing-clause-spare
returns-in-Listing-clause-spare g c = rw (c.learn_listing.ensures.seat, c.learn_listing.ensures.spare) (omega arith, omega arith)

pub returns-in-Listing-clause-forgotten : goal.returns-in-Listing-clause-forgotten
returns-in-Listing-clause-forgotten g c = c.learn_listing.ensures.forgotten

pub returns-in-Storing-clause-seat : goal.returns-in-Storing-clause-seat
returns-in-Storing-clause-seat g c = rw c.in-Storing.is (adds_nothing _ _ c.learn_store.ensures.seat)

pub returns-in-Storing-clause-spare : goal.returns-in-Storing-clause-spare
returns-in-Storing-clause-spare g c = rw (c.learn_store.ensures.seat, c.learn_store.ensures.spare) (omega arith, omega arith)

pub returns-in-Storing-clause-forgotten : goal.returns-in-Storing-clause-forgotten
returns-in-Storing-clause-forgotten g c = c.learn_store.ensures.forgotten

pub returns-in-Bearing-clause-spare : goal.returns-in-Bearing-clause-spare
returns-in-Bearing-clause-spare g c = c.learn_birth.ensures.spare

pub returns-in-Bearing-clause-forgotten : goal.returns-in-Bearing-clause-forgotten
returns-in-Bearing-clause-forgotten g c = c.learn_birth.ensures.forgotten
