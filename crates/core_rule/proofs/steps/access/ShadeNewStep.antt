-- Shading the new value of a set keeps the rule.
use Rattle.std.specs.Prelude.{unwrap_or}
use Rattle.std.proofs.Common.{◌≡◌, ℕ, true, [], ◌++◌, Option, Some, None, IfSome, inl, refl, subst, IsSome}
use Rattle.core_rule.proofs.Terms.{graph_of, phase, register_value, Graph, ShadingNew, Swapping, source_of, head_of, seat_at, has_barrier_of, register_head, Seat, ReadsSpine}
use Rattle.core_rule.proofs.Terms.{Colour, IsMarked, IsBetween, DeletionBarrier, FieldStands, ShadedStands, WhileAccess, node_at, Finds, OldKept}
use Rattle.core_machine.specs.declared.point.Point.TheVariants as points
use Rattle.core_machine.specs.seat.FitsAccess.{SeatIsAtSet}
use Rattle.core_machine.specs.seat.AccessMoves.{shade_new_move, new_register_of}
use Rattle.core_rule.proofs.steps.Assemble.{StepKeeps, seat_fits}
use Rattle.core_rule.proofs.steps.BarrierSteps.{keeps_rule_by_leading_shade, field_leads_as_before, registers_hold_values}
use Rattle.core_rule.proofs.cycle.CycleFrames.{deletion_barrier_stays}
use Rattle.core_rule.proofs.book.BookGoing.{by_register}
use Rattle.core_rule.proofs.ways.LoadedObjects.{referred_is_kept_head, held_value_refers}
use Rattle.core_rule.proofs.ways.OnwardWays.{finds_at_point, loaded_kept_at_point}
use Rattle.core_rule.proofs.lists.Options.{if_some_goes_on, if_some_of_the_one, holds_of_some}
use Rattle.core_rule.proofs.roots.CallRoots.{IsReachedNow, roots_hold_at_call}
use Rattle.core_rule.proofs.colours.ShadeColours.{with_mark, mark_marks_fragment, mark_keeps_marked}
use Rattle.core_rule.proofs.steps.ShadeStep.{words_shaded}
use Rattle.core_rule.proofs.steps.StepKinds.{StepKind, spares, step_kind_of_way, on_words_of_plain_step}
use Rattle.core_rule.proofs.colours.OneBit.{lower_bit_stays}

-- shading the new value keeps the rule
pub shade_new_keeps : StepKeeps (points.Access ShadingNew) (λ heap number. shade_new_move)
shade_new_keeps heap state book number rule here point machine =
    let seat : Seat = seat_at state number in
    let g : Graph = graph_of heap book.history in
    let p : ℕ = phase book.history in
    let stands = rule.seats_stand number here in
    let fits : SeatIsAtSet seat × (has_barrier_of seat ≡ true) × IsSome (register_head (new_register_of seat)) = rw point at (seat_fits rule number here).way_at_point in
    let way : Finds (node_at g book.made) book.made book.owner book.fragments seat × OldKept book.made book.owner book.fragments seat = rw point at stands.names.way in
    let reads : ReadsSpine heap state.words (node_at g book.made) book.owner book.fragments book.spines book.spine_owner seat = rw point at stands.names.address in
    let f : ℕ = unwrap_or (register_head (new_register_of seat)) 0 in
    let some : register_head (new_register_of seat) ≡ Some f = whole (register_head (new_register_of seat)) fits.2 in
    let refers = held_value_refers book.made book.owner book.fragments (new_register_of seat) (register_value g number (source_of seat.command))
    (registers_hold_values heap state book number rule here ShadingNew point (λ answered. answered) (λ d r awaited. awaited) (source_of seat.command)) f some in
    let head = referred_is_kept_head book.made book.owner book.fragments (register_value g number (source_of seat.command)) f refers in
    let coloured : ℕ → Colour = with_mark book.colour f in
    let back = field_leads_as_before heap state book number rule here ShadingNew point (λ answered. answered) (λ d r awaited. awaited) f head fits.1 in
    let watched : IsBetween 2 5 p → IsBetween 2 5 seat.answered → DeletionBarrier heap state.words book.colour seat.reached seat.part None
    = subst (λ x. IsBetween 2 5 p → IsBetween 2 5 seat.answered → WhileAccess (FieldStands heap state.words book.colour seat) x) point stands.cycle.flight.set in
    let was : IsBetween 1 5 p → IfSome (head_of seat.loaded) (IsMarked book.colour)
    = subst (λ x. IsBetween 1 5 p → WhileAccess (ShadedStands book.colour seat) x) point stands.cycle.flight.shaded in
    keeps_rule_by_leading_shade heap state book number rule here ShadingNew point (λ answered. answered) (λ d r awaited. awaited) f head fits.1 Swapping (λ s. refl) reads (
      finds_at_point (node_at g book.made) book.made book.owner book.fragments seat seat.loaded Swapping (seat.mine ++ []) way.0,
      λ (some : IsSome (head_of seat.loaded)). loaded_kept_at_point book.made book.owner book.fragments seat Swapping (seat.mine ++ []) (way.1 some),
    )
    (λ making snapped. deletion_barrier_stays heap state.words (words_shaded heap state book number rule here f head.index head.kept head.is) book.colour coloured (mark_keeps_marked book.colour f)
    seat.reached seat.part (λ x lead. inl (back x lead)) None (watched making snapped))
    (λ making is_on. (
      if_some_goes_on (IsMarked book.colour) (IsMarked coloured) (mark_keeps_marked book.colour f) (head_of seat.loaded) (was making),
      if_some_of_the_one (IsMarked coloured) (register_head (new_register_of seat)) f some (mark_marks_fragment book.colour f),
    ))
    (λ marks answered. holds_of_some (IsReachedNow heap state book) (register_head (new_register_of seat)) f some ((rule.marks_stand.roots number here marks answered).registers (source_of seat.command)))
    (λ marks. roots_hold_at_call (IsReachedNow heap state book) seat ShadingNew point)
    (by_register number (source_of seat.command) refers)
    machine
  where
    whole : (o : Option ℕ) → IsSome o → o ≡ Some (unwrap_or o 0)
    whole None some = absurd (cc)
    whole (Some x) some = refl

-- all that is asked of it
pub step_kind_of_shading_new : StepKind (points.Access ShadingNew)
step_kind_of_shading_new = step_kind_of_way (points.Access ShadingNew) (λ heap number. shade_new_move) (λ heap number seat. refl) (λ e. cc e) (λ heap number seat. tt) (λ heap number seat words found. refl) record {
  keeps = shade_new_keeps;
  stays = λ heap number seat found point_is. record { looks = refl; elsewhere = tt };
  comes = λ heap number seat found. tt;
  words = on_words_of_plain_step (points.Access ShadingNew) (λ heap number. shade_new_move) (λ heap number seat. refl) (λ heap number seat is. is) (λ heap number seat low. low)
      (λ heap state book rule number here. spares _ refl (λ word i above below. lower_bit_stays word 32 _ i below));
  found = λ heap state book number stands here point_is. tt;
}
