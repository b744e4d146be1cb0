-- A step that sets a fragment's born bit is a seat's birth, which gives the fragment the colour of the seat's births.
use Rattle.std.proofs.Common.{refl}
use Rattle.core_rule.proofs.Terms.{seat_at, Begins, BeginsInner, Steps, Turns, EachBirthHasItsColour}
use Rattle.core_rule.proofs.steps.collector.{turn_kind_of_each_stage}
use Rattle.core_rule.proofs.runs.Runs.{stepping_seat_is_there}
use Rattle.core_rule.proofs.steps.Seats.{step_kind_of_each_point}

pub each_birth_has_its_colour : EachBirthHasItsColour
each_birth_has_its_colour heap state book (Begins number command) f rule can within unborn born = absurd (unborn born)
each_birth_has_its_colour heap state book (BeginsInner number inner) f rule can within unborn born = absurd (unborn born)
each_birth_has_its_colour heap state book (Steps number) f rule can within unborn born =
    (number, refl, (step_kind_of_each_point (seat_at state number).point).words.bears heap state book rule number (stepping_seat_is_there heap state book number rule can) f within unborn born)
each_birth_has_its_colour heap state book Turns f rule can within unborn born = absurd ((turn_kind_of_each_stage state.collector.stage).bits.bears_none heap state book rule f within unborn born)
