-- The next spine's place is within the words that are granted: so a spine whose words are granted is always placed, and a copy always fits.
use Rattle.std.proofs.Common.{ap, arith}
use Rattle.core_rule.proofs.Terms.{seat_at, granted_at, placed_at, EveryRunKeeps, next_spine}
use Rattle.core_rule.specs.budgets.SpineLaws.{EachOffsetIsWithin, EachGrantIsPlaced, EachCopyFits}
use Rattle.core_rule.proofs.copies.CopyClaims.{copy_fits_half}
use Rattle.core_rule.proofs.steps.collector.{turn_kind_of_each_stage}
use Rattle.core_rule.proofs.budgets.OffsetWithin.{offset_within_granted_and_placed, offset_within_granted}

-- what a seat has that is about to place its spine is granted, and has no place yet
pub each_grant_is_placed : EachGrantIsPlaced
each_grant_is_placed heap state book number rule here point_is =
    let seat = seat_at state number in
    let none = ap (placed_at (next_spine heap state.words).half seat) point_is in
    let its = ap (granted_at seat) point_is in
    omega (arith, offset_within_granted_and_placed heap state book rule.heap_stands.control_words rule.space.budgets rule.space.halves number here, none, its, rule.space.budgets.low)

pub each_copy_fits : EachCopyFits
each_copy_fits heap state book words rule claims =
    let at_claim = (turn_kind_of_each_stage state.collector.stage).spines.claims heap state.collector words claims in
    omega (arith, copy_fits_half heap state book rule at_claim.0 at_claim.1 at_claim.2, at_claim.3)

pub each_offset_is_within : EveryRunKeeps → EachOffsetIsWithin
each_offset_is_within runs heap state events limits opening run =
    let stands = runs heap state events limits opening run in
    let rule = stands.stands.rule in
    let within = offset_within_granted heap _ stands.book rule in
    record {
      book = stands.book;
      tells = stands.grown;
      stands = stands.stands;
      within = record {
        within = within;
        low = rule.space.budgets.low;
        returned = omega (arith, within);
        most = omega (arith, rule.space.budgets.low, rule.space.budgets.returned);
      };
    }
