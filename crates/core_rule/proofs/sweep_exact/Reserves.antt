-- What a seat holds back for its next object.
use Rattle.std.proofs.Common.{sym, ◌∙◌}
use Rattle.core_rule.specs.sweep_exact.SweepLaws.{EachReserveIsSmall}
use Rattle.core_rule.proofs.entries.AtRest.{seat_fits}

-- its own data say so, and whether it has left is what the history says
pub each_reserve_is_small : EachReserveIsSmall
each_reserve_is_small heap state book number rule here =
    let fits = seat_fits rule number here in
    record {
      small = fits.own.small_reserve;
      of_cursor = fits.own.reserve_of_cursor;
      gone = λ left. (fits.gone (sym (rule.seats_stand number here).cycle.answers_told.leaves ∙ left)).no_reserve;
    }
