-- Shading a root keeps the rule.
use Rattle.std.proofs.Common.{◌≡◌, ℕ, ◌+◌, ◌%◌, ◌<◌, ◌==◌, if◌then◌else◌, Bool, true, false, List, [], length, filter, slice_index_or, refl, sym, ap, subst, arith, nat_lt}
use Rattle.std.proofs.lemmas.Bool.{cond_both, eqb-true}
use Rattle.std.proofs.lemmas.List.{append-nil}
use Rattle.core_rule.proofs.Terms.{cycle_phases, graph_of, is_of, register_value, phase, last_answer, has_left, Graph, target_of, seat_at, heads_of, register_in, Seat, RootsStand}
use Rattle.core_rule.proofs.Terms.{WhilePolling, IsAnswered, Asks, PollingStands, AnswerStands, IsAwaited, HoldsValue, IsReached}
use Rattle.heap_model.specs.PhasePlan.{marking as marking_phase}
use Rattle.core_machine.specs.declared.point.Point.TheVariants as points
use Rattle.core_machine.specs.declared.point.Polling.TheVariants.{Shading, Answering}
use Rattle.core_machine.specs.seat.HandshakeMoves.{root_move}
use Rattle.core_machine.specs.seat.Fits.{SeatIsAnswering as FitsAnswers}
use Rattle.core_machine.specs.seat.Handshake.{roots, answer_point}
use Rattle.core_rule.proofs.book.BookGoing.{by_register}
use Rattle.core_rule.proofs.marking.Marks.{roots_hold_off_way}
use Rattle.core_rule.proofs.steps.Assemble.{StepKeeps, seat_fits}
use Rattle.core_rule.proofs.cycle.CycleFrames.{seat_in_cycle_by_flight}
use Rattle.core_rule.proofs.colours.Births.{born_colours_stay}
use Rattle.core_rule.proofs.roots.Roots.{FrontMarked, front_marked_after_shade, roots_are_register_heads, roots_stand_at_answer}
use Rattle.core_rule.proofs.ways.LoadedObjects.{KeptHead, RefersTo, referred_is_kept_head, each_head_is_referred}
use Rattle.core_rule.proofs.entries.SeatLists.{own_list_after_entry}
use Rattle.core_rule.proofs.colours.ShadeColours.{with_mark}
use Rattle.core_rule.proofs.steps.ShadeStep.{shading, words_shaded, keeps_rule_by_shade, answer_same_after_shade, borne_colour_same_after_shade}
use Rattle.core_rule.proofs.steps.StepKinds.{StepKind, spares, step_kind_of_way, on_words_of_plain_step}
use Rattle.core_rule.proofs.colours.OneBit.{lower_bit_stays}

-- whoever goes on to shade or to answer asks for the phase
asks_on : (phase answer asked : ℕ) (seat : Seat) → Asks phase answer asked → PollingStands phase answer asked (answer_point seat)
asks_on phase answer asked seat asks = cond_both (nat_lt seat.shaded (length (roots seat))) Shading Answering (PollingStands phase answer asked) (λ more. asks) (λ done. asks)

-- a root is left in a cycle's third phase alone, and is one of the registers' heads
roots_third : (third : Bool) (all : List ℕ) (n : ℕ) → n < length (if third then all else []) → third ≡ true
roots_third true all n less = refl
roots_third false all n less = absurd (omega (arith, less))

-- shading a root keeps the rule
pub root_keeps : StepKeeps (points.Polling Shading) (λ heap number. root_move)
root_keeps heap state book number rule here point machine =
    let seat : Seat = seat_at state number in
    let g : Graph = graph_of heap book.history in
    let p : ℕ = phase book.history in
    let stands = rule.seats_stand number here in
    let fits : FitsAnswers seat × (seat.shaded < length (roots seat)) = rw point at (seat_fits rule number here).answer_at_point in
    let asks : Asks p seat.answered seat.asked = subst (λ x. AnswerStands p seat.answered seat.asked x) point stands.cycle.answer in
    let third : (seat.asked % cycle_phases == marking_phase) ≡ true = roots_third (seat.asked % cycle_phases == marking_phase) (heads_of seat.registers) seat.shaded fits.1 in
    let is_third : seat.asked % cycle_phases ≡ marking_phase = eqb-true (seat.asked % cycle_phases) marking_phase third in
    let all : roots seat ≡ heads_of seat.registers = roots_are_register_heads seat is_third in
    let f : ℕ = slice_index_or (roots seat) seat.shaded 0 in
    let busy : ¬ IsAnswered seat.point = λ done. subst IsAnswered point done in
    let held : (r : ℕ) → HoldsValue book.made book.owner book.fragments (register_in seat.registers r) (register_value g number r)
    = λ r. stands.names.registers r (λ awaited. subst (λ x. IsAwaited x (target_of seat.command) r) point awaited) in
    let refers : (r : ℕ) × RefersTo book.made book.owner book.fragments (register_value g number r) f
    = subst (λ (fs : List ℕ). (r : ℕ) × RefersTo book.made book.owner book.fragments (register_value g number r) (slice_index_or fs seat.shaded 0)) (sym all)
    (each_head_is_referred book.made book.owner book.fragments seat.registers (λ r. register_value g number r) held seat.shaded (subst (λ (fs : List ℕ). seat.shaded < length fs) all fits.1)) in
    let head : KeptHead book.made book.owner book.fragments f = referred_is_kept_head book.made book.owner book.fragments (register_value g number refers.0) f refers.1 in
    let front : FrontMarked book.colour seat.registers seat.shaded
    = subst (λ x. seat.asked % cycle_phases ≡ marking_phase → WhilePolling (RootsStand book.colour seat) x) point stands.cycle.flight.roots is_third in
    let new : Seat = shading seat (seat.shaded + 1) (points.Polling (answer_point (record seat { shaded = seat.shaded + 1 }))) in
    keeps_rule_by_shade heap state book number rule here f head.index head.kept head.is (seat.shaded + 1) (points.Polling (answer_point (record seat { shaded = seat.shaded + 1 })))
    (λ rests. omega (arith, rests, asks.now, is_third)) machine
    (λ r unawaited. held r)
    (own_list_after_entry g book.made book.owner book.fragments number seat book.history busy stands.told.list g book.history new [] [] [] refl refl (sym (append-nil (filter (is_of number) book.history))) refl)
    tt (rw point tt) tt tt tt busy
    (seat_in_cycle_by_flight heap state.words (words_shaded heap state book number rule here f head.index head.kept head.is) book.owner book.owner book.colour (with_mark book.colour f) p
    (last_answer number book.history) (has_left number book.history) number seat new
    record { answered = refl; left = refl; asked = refl } (answer_same_after_shade heap state book number rule here f head.index head.kept head.is number here)
    (asks_on p seat.answered seat.asked (record seat { shaded = seat.shaded + 1 }) asks)
    record {
      set = λ making snapped. tt;
      shaded = λ running. tt;
      roots = λ begins. roots_stand_at_answer (with_mark book.colour f) (record seat { shaded = seat.shaded + 1 }) begins
          (subst (λ (x : ℕ). FrontMarked (with_mark book.colour x) seat.registers (seat.shaded + 1)) (ap (λ (fs : List ℕ). slice_index_or fs seat.shaded 0) (sym all))
          (front_marked_after_shade book.colour seat.registers seat.shaded front));
    }
    (born_colours_stay book.owner book.owner book.colour (with_mark book.colour f) number seat.answered (λ x borne. (borne, borne_colour_same_after_shade heap state book number rule here f head.index head.kept head.is number x borne)) stands.cycle.births) stands.cycle)
    (λ marks answered. absurd (omega (arith, asks.next, asks.now, rule.collector_stands.phase_told, answered)))
    (λ marks. roots_hold_off_way (IsReached heap state.words book.owner book.colour) seat new refl tt)
    (λ last. omega (arith, asks.next, is_third, last))
    (by_register number refers.0 refers.1)

-- all that is asked of it
pub step_kind_of_shading : StepKind (points.Polling Shading)
step_kind_of_shading = step_kind_of_way (points.Polling Shading) (λ heap number. root_move) (λ heap number seat. refl) (λ e. cc e) (λ heap number seat. tt) (λ heap number seat words found. refl) record {
  keeps = root_keeps;
  stays = λ heap number seat found point_is. record { looks = refl; elsewhere = tt };
  comes = λ heap number seat found. tt;
  words = on_words_of_plain_step (points.Polling Shading) (λ heap number. root_move) (λ heap number seat. refl) (λ heap number seat is. is) (λ heap number seat low. low)
      (λ heap state book rule number here. spares _ refl (λ word i above below. lower_bit_stays word 32 _ i below));
  found = λ heap state book number stands here point_is. tt;
}
