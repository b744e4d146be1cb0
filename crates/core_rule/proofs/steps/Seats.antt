-- The one table of kinds of steps of a seat, by its point.
use Rattle.std.proofs.lemmas.List.{append-nil}
use Rattle.std.proofs.Common.{refl, sym, subst}
use Rattle.core_rule.proofs.Terms.{Point}
use Rattle.core_machine.specs.declared.point.Point.TheVariants as points
use Rattle.core_rule.proofs.entries.StepTells.{shows_none}
use Rattle.core_rule.proofs.book.BookGoing.{book_goes_on_with_history}
use Rattle.core_rule.proofs.looks.Follows.{looks_follow_blind_step}
use Rattle.core_rule.proofs.looks.Origins.{ComesFrom}
use Rattle.core_rule.proofs.steps.access
use Rattle.core_rule.proofs.steps.collecting
use Rattle.core_rule.proofs.steps.handshake
use Rattle.core_rule.proofs.steps.making
use Rattle.core_rule.proofs.steps.StepKinds.{StepKind}

-- without a call in flight no step is due
idle_kind : StepKind points.Idle
idle_kind = record {
  keeps = λ heap state book number rule here looks point_is machine. record { now = book; grown = sym (append-nil book.history); calls = refl; rule = rule; goes = book_goes_on_with_history heap state book book.history book.begun };
  shows = λ heap state number. shows_none;
  looks = record {
    follows = λ heap state number seat compares point_is. looks_follow_blind_step heap state _ _ _ tt refl refl;
    goes = λ heap state book rule number point_is. tt;
    comes = λ heap number seat found point_is. subst (ComesFrom points.Idle) (sym point_is) tt;
  };
  words = record {
    bears = λ heap state book rule number here f within unborn born. absurd (unborn born);
    stores = λ heap number seat is. absurd is;
    there = λ heap state book rule number here point_is low. tt;
  };
  found = λ heap state book number stands here point_is. tt;
}

-- the kind of step at each point
pub step_kind_of_each_point : (point : Point) → StepKind point
step_kind_of_each_point points.Idle = idle_kind
step_kind_of_each_point (points.Making point) = making.step_kind_of_making point
step_kind_of_each_point points.Local = access.TellingStep.telling_kind
step_kind_of_each_point (points.Access point) = access.step_kind_of_access point
step_kind_of_each_point (points.Polling point) = handshake.step_kind_of_polling point
step_kind_of_each_point (points.Collecting point) = collecting.step_kind_of_collecting point
step_kind_of_each_point (points.Leaving point) = handshake.step_kind_of_leaving point
