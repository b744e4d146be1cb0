-- Shading the old value of a set keeps the rule.
use Rattle.std.proofs.Common.{◌≡◌, ℕ, true, [], ◌++◌, Some, None, IfSome, inl, inr, refl, sym, ap, ◌∙◌, subst, ◌⊎◌, IsSome, slice_set}
use Rattle.core_rule.proofs.Terms.{graph_of, phase, Graph, ShadingOld, ShadingNew, Swapping, head_of, seat_at, has_barrier_of, after_old, register_head, register_in, Seat}
use Rattle.core_rule.proofs.Terms.{IsMachine, ReadsSpine, Colour, fragment_at, IsMarked, WordPointsTo, IsBetween, DeletionBarrier, FieldStands, WhileAccess, node_at, Finds}
use Rattle.core_rule.proofs.Terms.{LoadedKept, source_of}
use Rattle.core_machine.specs.declared.point.Point.TheVariants as points
use Rattle.core_machine.specs.declared.point.Access.{Access}
use Rattle.core_machine.specs.seat.FitsAccess.{SeatIsAtSet}
use Rattle.core_machine.specs.seat.AccessMoves.{shade_old_move, loaded_head_of, new_register_of}
use Rattle.core_rule.specs.roots.Roots.{IsInMarking, OfRoots}
use Rattle.core_rule.proofs.steps.Assemble.{Keeps, StepKeeps, seat_fits}
use Rattle.core_rule.proofs.steps.BarrierSteps.{new_point_cases, keeps_rule_by_leading_shade, field_leads_as_before}
use Rattle.core_rule.proofs.book.BookGoing.{IsNamed, by_set}
use Rattle.core_rule.proofs.ways.LoadedObjects.{KeptHead}
use Rattle.core_rule.proofs.ways.OnwardWays.{finds_at_point, loaded_kept_at_point}
use Rattle.core_rule.proofs.lists.Options.{if_some_of_the_one, if_some_of_none, unwrapped_some_is_value, holds_of_some}
use Rattle.core_rule.proofs.roots.CallRoots.{IsReachedNow, roots_hold_at_call}
use Rattle.core_rule.proofs.colours.ShadeColours.{with_mark, mark_marks_fragment, mark_keeps_marked}
use Rattle.core_rule.proofs.steps.ShadeStep.{shading, words_shaded}
use Rattle.core_rule.proofs.steps.StepKinds.{StepKind, spares, comes_from_usual, new_point_is_usual, step_kind_of_way, on_words_of_plain_step}
use Rattle.core_rule.proofs.colours.OneBit.{lower_bit_stays}

-- shading the old value keeps the rule
pub shade_old_keeps : StepKeeps (points.Access ShadingOld) (λ heap number. shade_old_move)
shade_old_keeps heap state book number rule here point machine =
    let seat : Seat = seat_at state number in
    let g : Graph = graph_of heap book.history in
    let p : ℕ = phase book.history in
    let stands = rule.seats_stand number here in
    let fits : SeatIsAtSet seat × (has_barrier_of seat ≡ true) × IsSome (head_of seat.loaded) = rw point at (seat_fits rule number here).way_at_point in
    let way : Finds (node_at g book.made) book.made book.owner book.fragments seat × LoadedKept book.made book.owner book.fragments seat = rw point at stands.names.way in
    let reads : ReadsSpine heap state.words (node_at g book.made) book.owner book.fragments book.spines book.spine_owner seat = rw point at stands.names.address in
    let f : ℕ = loaded_head_of seat in
    let is : f ≡ fragment_at (book.fragments way.1.index) 0 = unwrapped_some_is_value (head_of seat.loaded) _ way.1.loads in
    let loads : head_of seat.loaded ≡ Some f = way.1.loads ∙ ap Some (sym is) in
    let head : KeptHead book.made book.owner book.fragments f = record { index = way.1.index; below = way.1.below; kept = way.1.kept; is = is } in
    let named : IsNamed heap state book f = by_set number here point loads in
    let coloured : ℕ → Colour = with_mark book.colour f in
    let on = keeps_rule_by_leading_shade heap state book number rule here ShadingOld point (λ answered. answered) (λ d r awaited. awaited) f head fits.1 in
    let back = field_leads_as_before heap state book number rule here ShadingOld point (λ answered. answered) (λ d r awaited. awaited) f head fits.1 in
    let at_next = λ (next : Access). finds_at_point (node_at g book.made) book.made book.owner book.fragments seat seat.loaded next (seat.mine ++ []) way.0 in
    let kept_at = λ (next : Access) (some : IsSome (head_of seat.loaded)). loaded_kept_at_point book.made book.owner book.fragments seat next (seat.mine ++ []) way.1 in
    let marked : IfSome (head_of seat.loaded) (IsMarked coloured) = if_some_of_the_one (IsMarked coloured) (head_of seat.loaded) f loads (mark_marks_fragment book.colour f) in
    let watched : IsBetween 2 5 p → IsBetween 2 5 seat.answered → DeletionBarrier heap state.words book.colour seat.reached seat.part (head_of seat.loaded)
    = subst (λ x. IsBetween 2 5 p → IsBetween 2 5 seat.answered → WhileAccess (FieldStands heap state.words book.colour seat) x) point stands.cycle.flight.set in
    let comes : IsInMarking state.collector → seat.answered ≡ state.collector.phase → IsReachedNow heap state book f
    = λ marks answered. holds_of_some (IsReachedNow heap state book) (head_of seat.loaded) f loads (roots_hold_at_call (IsReachedNow heap state book) seat ShadingOld point (rule.marks_stand.roots number here marks answered)).1 in
    let reached = λ (marks : IsInMarking state.collector) (roots : OfRoots (IsReachedNow heap state book) seat). (roots_hold_at_call (IsReachedNow heap state book) seat ShadingOld point roots).0 in
    let field : IsBetween 2 5 p → IsBetween 2 5 seat.answered → (x : ℕ)
    → WordPointsTo heap (words_shaded heap state book number rule here f head.index head.kept head.is) seat.reached seat.part x → (None ≡ Some x) ⊎ IsMarked coloured x
    = λ making snapped x lead. elim (watched making snapped x (back x lead)) [
      | inl same ↦ let as_loaded : f ≡ x = cc (loads, same) in inr (subst (IsMarked coloured) as_loaded (mark_marks_fragment book.colour f))
      | inr was ↦ inr (mark_keeps_marked book.colour f x was)
    ] in
    new_point_cases (λ next. IsMachine heap (record state { words = words_shaded heap state book number rule here f head.index head.kept head.is; seats = slice_set state.seats number (shading seat seat.shaded (points.Access next)) })
    → Keeps heap state (record state { words = words_shaded heap state book number rule here f head.index head.kept head.is; seats = slice_set state.seats number (shading seat seat.shaded (points.Access next)) }) book book.begun [])
    (register_head (new_register_of seat))
    (λ no_new. on Swapping (λ s. refl) reads (at_next Swapping, kept_at Swapping) (λ making snapped. field making snapped)
    (λ making is_on. (marked, if_some_of_none (IsMarked coloured) (register_head (new_register_of seat)) no_new)) comes reached named)
    (λ x some. on ShadingNew (λ s. refl) reads (at_next ShadingNew, kept_at ShadingNew) field (λ making. marked) comes reached named)
    machine

-- all that is asked of it
pub step_kind_of_shading_old : StepKind (points.Access ShadingOld)
step_kind_of_shading_old = step_kind_of_way (points.Access ShadingOld) (λ heap number. shade_old_move) (λ heap number seat. refl) (λ e. cc e) (λ heap number seat. tt) (λ heap number seat words found. refl) record {
  keeps = shade_old_keeps;
  stays = λ heap number seat found point_is. record { looks = refl; elsewhere = tt };
  comes = λ heap number seat found.
      comes_from_usual _ (after_old seat).point (new_point_is_usual (register_head (register_in seat.registers (source_of seat.command))));
  words = on_words_of_plain_step (points.Access ShadingOld) (λ heap number. shade_old_move) (λ heap number seat. refl) (λ heap number seat is. is) (λ heap number seat low. low)
      (λ heap state book rule number here. spares _ refl (λ word i above below. lower_bit_stays word 32 _ i below));
  found = λ heap state book number stands here point_is. tt;
}
