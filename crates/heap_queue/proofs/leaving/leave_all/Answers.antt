use Rattle.std.proofs.Common.{◌∷◌, [], ◌++◌, sym, ap, subst, ◌∙◌, append_assoc}
use Rattle.std.specs.Prelude.{All}
use Rattle.std.specs.Vec.Iter.{into_iter_items}
use Rattle.std.proofs.lemmas.List.Elements.{AllZip-push}
use Rattle.heap_runs.specs.CollectCall.{IsPresent}
use Rattle.heap_queue.specs.Leaving.{Leaves, EachLeaves}
use Rattle.heap_queue.proofs.LeavingSeats.{next_is_present}
use Rattle.heap_queue.proofs.leaving.leave_all.Goals as goal

pub leave-requires : goal.leave-requires
leave-requires c =
    let rest = into_iter_items c.next.new.self in
    let all = ap (λ xs. c.loop-seat.yielded ++ xs) (sym c.in-Some.ensures.steps.0) ∙ c.loop-seat.invariant.1 in
    next_is_present c.loop-seat.yielded rest c.in-Some.seat (subst (All IsPresent) (sym all) c.requires)

pub loop-seat-preserved : goal.loop-seat-preserved
loop-seat-preserved c = (
  subst (EachLeaves (c.loop-seat.yielded ++ c.in-Some.seat ∷ [])) (sym c.in_ok-push.ensures.items) (AllZip-push Leaves c.loop-seat.yielded c.loop-seat.gone.items c.in-Some.seat c.leave.new.seat c.loop-seat.invariant.0 c.in_ok-leave.ensures),
  append_assoc c.loop-seat.yielded (c.in-Some.seat ∷ []) (into_iter_items c.next.new.self) ∙ (ap (λ xs. c.loop-seat.yielded ++ xs) (sym c.in-Some.ensures.steps.0) ∙ c.loop-seat.invariant.1),
)
