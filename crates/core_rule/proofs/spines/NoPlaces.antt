-- A seat whose spine has no place has no range.
use Rattle.core_rule.proofs.Terms.{Seat, HasPlace}
use Rattle.core_rule.proofs.budgets.NoneMade.{SameRange}

pub same_range_away : (old now : Seat) → ¬ HasPlace now now.point → SameRange old now
same_range_away old now none = record { had = λ has. absurd (none has); spine = λ has. absurd (none has); answered = λ has. absurd (none has) }
